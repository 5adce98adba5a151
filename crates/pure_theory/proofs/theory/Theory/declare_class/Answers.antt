use Rattle.std.proofs.lemmas.Result.{err_from_is_err_and}
use Rattle.pure_text.proofs.AnswerLaws.{test_fails}
use Rattle.pure_theory.proofs.GrowthLaws.{class_stage}
use Rattle.pure_theory.proofs.NamesakeLaws.{new_class}
use Rattle.pure_theory.proofs.RefusalLaws.{class_named, class_undeclared, class_refused, classes_known}
use Rattle.pure_theory.proofs.theory.Theory.declare_class.Goals as goal

pub returns-then-declares_class-clause-fault : goal.returns-then-declares_class-clause-fault
returns-then-declares_class-clause-fault c = class_named c.args.self.now.declarations (record { name = c.args.name; above = c.args.above.now }) (c.declares_class.ensures.0 c.if-declares_class.true)

pub returns-in_err-order-clause-fault : goal.returns-in_err-order-clause-fault
returns-in_err-order-clause-fault c =
    let p = err_from_is_err_and c.from_residual.result c.from_residual.ensures.1 in
    rw (p.1, p.2) (class_refused c.args.self.now.declarations c.order.result.now (record { name = c.args.name; above = c.args.above.now }) c.in_err-order.field-0.0 c.order.ensures (test_fails _ c.declares_class.result c.declares_class.ensures c.if-declares_class.false) c.in_err-order.ensures.fault)

pub with-requires : goal.with-requires
with-requires c =
    let none = test_fails _ c.declares_class.result c.declares_class.ensures c.if-declares_class.false in
    rw (← c.self.view_is, c.in_ok-declared.ensures, c.in_ok-names.ensures)
    (class_stage _ c.self.invariant.sound c.order.result.now _ (rw (← c.self.view_is) at c.order.ensures) c.in_ok-order.ensures.coregular (record { name = c.args.name; above = c.args.above.now }) (rw (← c.self.view_is) at none) c.in_ok-order.ensures.new.0 c.in_ok-order.ensures.ok)

pub returns-clause-new : goal.returns-clause-new
returns-clause-new c = new_class c.args.self.now.declarations (record { name = c.args.name; above = c.args.above.now }) (class_undeclared c.args.self.now.declarations c.args.name (test_fails _ c.declares_class.result c.declares_class.ensures c.if-declares_class.false))

pub returns-clause-known : goal.returns-clause-known
returns-clause-known c = classes_known c.args.self.now.declarations c.order.result.now c.args.above.now c.order.ensures c.in_ok-order.ensures.new.0
