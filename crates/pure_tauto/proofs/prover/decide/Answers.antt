use Rattle.std.proofs.lemmas.Result.{err_from_is_err_and}
use Rattle.pure_tauto.proofs.ProverLaws.{stop-refuses}
use Rattle.pure_tauto.proofs.prover.decide.Goals as goal

pub returns-in_err-found-clause-fault : goal.returns-in_err-found-clause-fault
returns-in_err-found-clause-fault g c =
    let p = err_from_is_err_and c.from_residual-in_err-found.result c.from_residual-in_err-found.ensures.1 in
    rw (p.1, p.2) (stop-refuses c.args.goal.now c.in_err-found.field-0.0 c.in_err-found.ensures.fault)
