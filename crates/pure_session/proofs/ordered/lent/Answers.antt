use Rattle.std.proofs.Common.{◌≤◌, map, subst}
use Rattle.pure_session.proofs.OrderedLemmas.{lent-more, lent-all}
use Rattle.pure_session.proofs.ordered.lent.Goals as goal

pub loop-place-preserved : goal.loop-place-preserved
loop-place-preserved c =
    lent-more (λ text. text.now) c.loop-place.texts.items c.push.new.self.items c.args.list.now c.loop-place.place c.at.result c.at.ensures c.in_ok-push.ensures.items c.loop-place.invariant

pub returns : goal.returns
returns c =
    lent-all (map (λ text. text.now) c.loop-place.texts.items) c.args.list.now c.loop-place.place
    (subst (λ n. n ≤ c.loop-place.place) c.len-place-end.ensures c.loop-place-test.false) c.loop-place.invariant
