use Rattle.pure_unify_steps.proofs.TreatLaws.{left_answer, right_answer, against_neither}
use Rattle.pure_unify_steps.proofs.bare.treat_variables.Goals as goal

pub returns-in-Some : goal.returns-in-Some
returns-in-Some c = left_answer c.args.l.now c.args.r.now c.in-Some.v c.treat_bare.result (rw c.in-Some.is at c.in_ok-v.ensures) c.treat_bare.ensures

pub returns-in-Some-2 : goal.returns-in-Some-2
returns-in-Some-2 c = right_answer c.args.l.now c.args.r.now c.in-Some-2.v c.treat_bare-in-Some-2.result (rw c.in-None.is at c.in_ok-v.ensures) (rw c.in-Some-2.is at c.in_ok-v-in-None.ensures) c.treat_bare-in-Some-2.ensures

pub returns-in-None-2 : goal.returns-in-None-2
returns-in-None-2 c = against_neither c.args.l.now c.args.r.now (rw c.in-None.is at c.in_ok-v.ensures) (rw c.in-None-2.is at c.in_ok-v-in-None.ensures)
