use Rattle.std.proofs.Common.{take_all}
use Rattle.pure_text.proofs.AnswerLaws.{test_fails, no_as, yes_as}
use Rattle.pure_text.proofs.ListLaws.{each_read}
use Rattle.pure_text.proofs.LoopLaws.{each_turn}
use Rattle.pure_pattern_rules.specs.Treated.{AreSidesWithin}
use Rattle.pure_pattern.proofs.call.are_within.Goals as goal

pub returns-then-not-is_pair_within : goal.returns-then-not-is_pair_within
returns-then-not-is_pair_within c =
    no_as _ (λ each. test_fails _ c.is_pair_within.result c.is_pair_within.ensures c.if-not-is_pair_within.true (each_read AreSidesWithin c.args.pairs.now c.loop-pair.pair-index c.pair-item.result c.loop-pair-test.true c.pair-item.is each))

pub loop-pair-preserved : goal.loop-pair-preserved
loop-pair-preserved c =
    each_turn AreSidesWithin c.args.pairs.now c.loop-pair.pair-index c.pair-item.result c.loop-pair-test.true c.pair-item.is c.loop-pair.invariant (c.is_pair_within.ensures.0 c.if-not-is_pair_within.false)

pub returns : goal.returns
returns c = yes_as _ (rw (take_all c.loop-pair.pair-index c.args.pairs.now c.loop-pair-test.false) at c.loop-pair.invariant)
