use Rattle.std.proofs.Common.{◌≤◌, length, refl, arith}
use Rattle.pure_pairs.proofs.SmashLaws.{all-treated}
use Rattle.pure_pairs.proofs.PlainLaws.{smashed_plain}
use Rattle.pure_pairs.proofs.theorem.smashed.Goals as goal

pub returns-then-is_plain : goal.returns-then-is_plain
returns-then-is_plain c = smashed_plain c.args.th.now _ (c.is_plain.ensures c.if-is_plain.true) refl c.under_pairs.result c.under_pairs.ensures

pub returns : goal.returns
returns c =
    let all : length c.args.th.now.pairs ≤ c.loop-turn.turn = rw (← c.th.view_is) (omega (arith, c.loop-turn-test.false, c.len-turn-end.ensures)) in
    all-treated c.args.th.now c.loop-turn.left c.loop-turn.turn c.loop-turn.invariant.0 c.loop-turn.invariant.1 all
