use Rattle.std.proofs.Common.{take_all}
use Rattle.pure_text.proofs.LoopLaws.{each_turn}
use Rattle.pure_unify_definitions.specs.Children.{IsFlexFlex}
use Rattle.pure_pairs.proofs.plain.are_flex_flex.Goals as goal

pub loop-pair-preserved : goal.loop-pair-preserved
loop-pair-preserved c =
    each_turn IsFlexFlex c.args.pairs.now c.loop-pair.pair-index c.pair-item.result c.loop-pair-test.true c.pair-item.is c.loop-pair.invariant (c.is_flex_flex.ensures c.if-not-is_flex_flex.false)

pub returns : goal.returns
returns c = λ yes. rw (take_all c.loop-pair.pair-index c.args.pairs.now c.loop-pair-test.false) at c.loop-pair.invariant
