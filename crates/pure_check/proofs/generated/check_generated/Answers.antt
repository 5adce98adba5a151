use Rattle.std.proofs.Common.{◌∙◌}
use Rattle.pure_check.proofs.JobLemmas.{generate-done}
use Rattle.pure_check.proofs.generated.check_generated.Goals as goal

pub returns-clause-ok : goal.returns-clause-ok
returns-clause-ok g c told = generate-done _ _ _ _ _ (c.make-library.ensures ∙ c.in-Ok.ensures) told _ c.table_answer.ensures.ok
