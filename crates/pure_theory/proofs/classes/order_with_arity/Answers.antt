use Rattle.std.proofs.lemmas.Result.{err_from_is_err_and}
use Rattle.pure_theory.proofs.RefusalLaws.{given_arity}
use Rattle.pure_theory.proofs.classes.order_with_arity.Goals as goal

pub returns-in_err-add_arity-clause-fault : goal.returns-in_err-add_arity-clause-fault
returns-in_err-add_arity-clause-fault c =
    let p = err_from_is_err_and c.from_residual-in_err-add_arity.result c.from_residual-in_err-add_arity.ensures.1 in
    rw (p.1, p.2) (given_arity c.args.order.now _ c.in_err-add_arity.field-0.0 (rw c.in_ok-more.ensures at c.in_err-add_arity.ensures.fault))

pub returns-clause-new : goal.returns-clause-new
returns-clause-new c = rw c.in_ok-more.ensures at c.in_ok-add_arity.ensures.new
