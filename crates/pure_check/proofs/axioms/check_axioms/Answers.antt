use Rattle.std.proofs.Common.{refl}
use Rattle.pure_check.proofs.JobLemmas.{axioms-done}
use Rattle.pure_check.proofs.axioms.check_axioms.Goals as goal

pub returns-clause-ok : goal.returns-clause-ok
returns-clause-ok g c = axioms-done c.args.workers c.args.name.now c.args.name refl _ refl _ c.table_answer.result c.table_answer.ensures.ok
