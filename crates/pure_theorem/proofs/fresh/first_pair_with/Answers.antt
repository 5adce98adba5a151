use Rattle.std.proofs.Common.{take_all}
use Rattle.pure_text.proofs.AnswerLaws.{test_fails}
use Rattle.pure_theorem.specs.First.{OccursInPair}
use Rattle.pure_theorem.proofs.FirstLaws.{first-at, lacking-turn, fresh_in_pairs}
use Rattle.pure_theorem.proofs.fresh.first_pair_with.Goals as goal

pub returns-then-occurs_in_pair : goal.returns-then-occurs_in_pair
returns-then-occurs_in_pair c =
    first-at (OccursInPair c.args.variable.now) c.args.pairs.now c.loop-place.place c.index-pairs-place.result c.cut_place.result c.loop-place-test.true c.index-pairs-place.is c.loop-place.invariant (c.occurs_in_pair.ensures.0 c.if-occurs_in_pair.true)
    c.cut_place.ensures

pub loop-place-preserved : goal.loop-place-preserved
loop-place-preserved c =
    lacking-turn (OccursInPair c.args.variable.now) c.args.pairs.now c.loop-place.place c.index-pairs-place.result c.loop-place-test.true c.index-pairs-place.is c.loop-place.invariant
    (test_fails (OccursInPair c.args.variable.now c.index-pairs-place.result) c.occurs_in_pair.result c.occurs_in_pair.ensures c.if-occurs_in_pair.false)

pub returns : goal.returns
returns c = fresh_in_pairs c.args.variable.now c.args.pairs.now (rw (take_all c.loop-place.place c.args.pairs.now c.loop-place-test.false) at c.loop-place.invariant)
