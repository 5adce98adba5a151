use Rattle.std.proofs.Common.{take_all}
use Rattle.pure_text.proofs.LoopLaws.{each_turn}
use Rattle.pure_pattern_rows.specs.Sides.{IsReadyPair}
use Rattle.pure_pattern_rows.proofs.SideLaws.{all-ready}
use Rattle.pure_pattern_rows.proofs.asked.are_ready.Goals as goal

pub loop-pair-preserved : goal.loop-pair-preserved
loop-pair-preserved c =
    each_turn IsReadyPair c.args.pairs.now c.loop-pair.pair-index c.pair-item.result c.loop-pair-test.true c.pair-item.is c.loop-pair.invariant (rw c.if-not-is_ready.false at c.is_ready.ensures)

pub returns : goal.returns
returns c = all-ready c.args.pairs.now (rw (take_all c.loop-pair.pair-index c.args.pairs.now c.loop-pair-test.false) at c.loop-pair.invariant)
