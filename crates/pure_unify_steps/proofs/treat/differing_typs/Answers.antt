use Rattle.pure_unify_steps.proofs.TreatLaws.{one_typ}
use Rattle.pure_unify_steps.proofs.treat.differing_typs.Goals as goal

pub returns-then-have_one_typ : goal.returns-then-have_one_typ
returns-then-have_one_typ c = one_typ c.args.l.now c.args.r.now c.requires.left c.requires.right (rw c.if-have_one_typ.true at c.have_one_typ.ensures)
