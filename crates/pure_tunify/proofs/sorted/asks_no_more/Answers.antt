use Rattle.std.proofs.Common.{take_all}
use Rattle.pure_definitions.specs.Types.Order.{IsSortBelow}
use Rattle.pure_text.proofs.LoopLaws.{each_turn}
use Rattle.pure_tunify.specs.declared.asks.Asked.{Asked}
use Rattle.pure_tunify.proofs.sorted.asks_no_more.Goals as goal

pub loop-one-preserved : goal.loop-one-preserved
loop-one-preserved c =
    each_turn (λ (a : Asked). IsSortBelow c.args.order.now a.sort a.asked) c.args.asked.now c.loop-one.one-index c.one-item.result c.loop-one-test.true c.one-item.is c.loop-one.invariant (c.sort_below.ensures.0 c.if-not-sort_below.false)

pub returns : goal.returns
returns c = rw (take_all c.loop-one.one-index c.args.asked.now c.loop-one-test.false) at c.loop-one.invariant
