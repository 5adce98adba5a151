use Rattle.std.proofs.Common.{take_all}
use Rattle.pure_text.proofs.AnswerLaws.{test_fails}
use Rattle.pure_text.proofs.LoopLaws.{each_turn}
use Rattle.pure_pattern_laws.specs.Patterns.{IsPatternPair}
use Rattle.pure_pattern_terms.proofs.RefusedLaws.{first-failing}
use Rattle.pure_pattern_terms.proofs.refused.first_no_pattern.Goals as goal

pub returns-then-not-branch : goal.returns-then-not-branch
returns-then-not-branch c =
    first-failing IsPatternPair c.args.pairs.now c.loop-place.place c.index-pairs-place.result c.cut_place.result c.loop-place-test.true c.index-pairs-place.is c.loop-place.invariant
    (test_fails _ c.in_ok-is_pattern_pair.field-0 c.in_ok-is_pattern_pair.ensures c.if-not-branch.true) c.cut_place.ensures

pub loop-place-preserved : goal.loop-place-preserved
loop-place-preserved c =
    each_turn IsPatternPair c.args.pairs.now c.loop-place.place c.index-pairs-place.result c.loop-place-test.true c.index-pairs-place.is c.loop-place.invariant (c.in_ok-is_pattern_pair.ensures.0 c.if-not-branch.false)

pub returns : goal.returns
returns c = rw (take_all c.loop-place.place c.args.pairs.now c.loop-place-test.false) at c.loop-place.invariant
