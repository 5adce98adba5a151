use Rattle.pure_unify_steps.proofs.TreatLaws.{others_answer}
use Rattle.pure_unify_steps.proofs.treat.treat_same_typ.Goals as goal

pub returns-in-Some : goal.returns-in-Some
returns-in-Some c = (rw c.in-Some.is at c.in_ok-how.ensures) c.requires.typed

pub returns-in-None : goal.returns-in-None
returns-in-None c = others_answer c.args.l.now c.args.r.now c.treat_others.result (record { typed = c.requires.typed; occurring = rw c.in-None.is at c.in_ok-how.ensures }) c.treat_others.ensures
