use Rattle.std.proofs.Common.{◌≡◌, ap, sym}
use Rattle.pure_text.proofs.AnswerLaws.{test_fails}
use Rattle.pure_logic.specs.Derivable.{Pair}
use Rattle.pure_pattern_rules.proofs.RigidLaws.{heads_differ, heads_same}
use Rattle.pure_pattern_rules.proofs.rigid.both_rigid.Goals as goal

pub returns-then-not-are_same-clause-treated : goal.returns-then-not-are_same-clause-treated
returns-then-not-are_same-clause-treated c =
    let apart = test_fails (c.head.result.now ≡ c.head-2.result.now) c.are_same.result c.are_same.ensures c.if-not-are_same.true in
    λ index. heads_differ index c.args.pair.now c.pair.inside.left c.pair.inside.right c.head.result.now c.head-2.result.now (ap (λ (p : Pair). p.left) (sym c.pair.view_is)) (ap (λ (p : Pair). p.right) (sym c.pair.view_is))
    c.head.ensures c.head-2.ensures c.requires.left c.requires.right apart

pub returns-clause-treated : goal.returns-clause-treated
returns-clause-treated c =
    let same = c.are_same.ensures.0 c.if-not-are_same.false in
    λ index. heads_same index c.args.pair.now c.pair.inside.left c.pair.inside.right c.head.result.now c.head-2.result.now c.in_ok-pairs.pairs.items (ap (λ (p : Pair). p.left) (sym c.pair.view_is)) (ap (λ (p : Pair). p.right) (sym c.pair.view_is))
    c.head.ensures c.head-2.ensures c.requires.left c.requires.right c.requires.differ same c.in_ok-pairs.ensures
