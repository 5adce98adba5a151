use Rattle.std.proofs.Common.{◌<◌, sym, ap, ◌∙◌, subst}
use Rattle.pure_text.specs.Lists.{Each}
use Rattle.pure_shared_maps.specs.View.{pair_of, pairs_of}
use Rattle.pure_shared_maps.proofs.FindLaws.{at_place}
use Rattle.pure_shared_maps.proofs.MergeLaws.{may_follow, some_left}
use Rattle.pure_shared_maps.proofs.entries.may_follow.Goals as goal

pub returns : goal.returns
returns g c = λ yes.
    may_follow (pairs_of c.args.first.now) (pairs_of c.args.second.now) (pair_of c.index-second-0.result) _
    (at_place 0 c.args.second.now c.index-second-0.result (some_left c.args.second.now (sym c.is_empty.ensures ∙ c.if-is_empty.false)) c.index-second-0.is)
    c.requires.first_ascends c.requires.second_ascends
    (subst (λ k. Each (λ p. p.0 < k) (pairs_of c.args.first.now)) (ap (λ e. e.key) (sym c.index-second-0.is)) (c.are_less.ensures yes))
