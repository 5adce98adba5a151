use Rattle.pure_text.proofs.AnswerLaws.{test_fails}
use Rattle.pure_text.proofs.LoopLaws.{each_turn}
use Rattle.pure_definitions.specs.Declarations.Decl.{IsDeclaredClass}
use Rattle.pure_certify.proofs.PartLemmas.{class-answer, fault-at_class}
use Rattle.pure_certify.proofs.typ.fault_of_sort.Goals as goal

pub returns-then-not-is_declared : goal.returns-then-not-is_declared
returns-then-not-is_declared g c =
    let ds = g.D.Tables.declarations c.args.tables.now in
    let unknown = test_fails _ c.is_declared.result (class-answer ds c.order-order.result.now c.class-item.result c.is_declared.result c.order-order.ensures c.is_declared.ensures) c.if-not-is_declared.true in
    rw (← c.classes-class-items.ensures.are) (fault-at_class ds c.classes-class-items.result.now c.loop-class.class-index c.class-item.result c.loop-class-test.true c.class-item.is c.loop-class.invariant unknown)

pub loop-class-preserved : goal.loop-class-preserved
loop-class-preserved g c =
    let ds = g.D.Tables.declarations c.args.tables.now in
    let answer = class-answer ds c.order-order.result.now c.class-item.result c.is_declared.result c.order-order.ensures c.is_declared.ensures in
    each_turn (IsDeclaredClass ds) c.classes-class-items.result.now c.loop-class.class-index c.class-item.result c.loop-class-test.true c.class-item.is c.loop-class.invariant (answer.0 c.if-not-is_declared.false)
