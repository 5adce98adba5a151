use Rattle.std.proofs.Common.{sym, subst}
use Rattle.pure_certify.specs.Answer.{IsTermFault}
use Rattle.pure_certify.proofs.TermLemmas.{untyped-fault}
use Rattle.pure_certify.proofs.term.certified_typ.Goals as goal

pub returns-in-Ok : goal.returns-in-Ok
returns-in-Ok c ds parts = (parts, c.in-Ok.ensures)

pub returns-in-Err : goal.returns-in-Err
returns-in-Err c ds parts = subst (IsTermFault ds c.args.t.now) (sym c.untyped.ensures) (untyped-fault ds c.args.t.now c.in-Err.fault parts c.in-Err.ensures)
