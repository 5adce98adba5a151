use Rattle.pure_check.proofs.JobLemmas.{check-done}
use Rattle.pure_check.proofs.checked.check.Goals as goal

pub returns-clause-ok : goal.returns-clause-ok
returns-clause-ok g c = check-done _ _ _ _ c.list.ensures _ _ c.table_answer.ensures.ok
