use Rattle.pure_tunify.specs.Asks.{AreUnions}
use Rattle.pure_tunify.proofs.AskLaws.{asked_none, asked_turn, other_count}
use Rattle.pure_tunify.proofs.asks.asked_of_arguments.Goals as goal

pub loop-class-init : goal.loop-class-init
loop-class-init c = asked_none c.args.order.now c.args.con c.args.count c.in_ok-sorts.sorts.items c.in_ok-sorts.ensures.long c.in_ok-sorts.ensures.empty

pub returns-then-domains-count : goal.returns-then-domains-count
returns-then-domains-count c = other_count c.args.order.now c.args.con c.class-item.result c.args.count c.loop-class.class-index c.classes-class-items.result.now c.args.sort.now c.in-Some.domains.now
    c.classes-class-items.ensures.are c.loop-class-test.true c.class-item.is c.in-Some.ensures.of_class c.if-domains-count.true

pub loop-class-preserved : goal.loop-class-preserved
loop-class-preserved c =
    let united : AreUnions c.loop-class.sorts.items c.in-Some.domains.now c.in_ok-sorts-2.sorts.items = rw c.as_slice.ensures.value at c.in_ok-sorts-2.ensures in
    asked_turn c.args.order.now c.args.con c.class-item.result c.args.count c.loop-class.class-index c.classes-class-items.result.now c.in-Some.domains.now c.loop-class.sorts.items c.in_ok-sorts-2.sorts.items
    c.loop-class-test.true c.class-item.is c.in-Some.ensures.of_class c.loop-class.invariant united
