use Rattle.pure_check.proofs.JobLemmas.{done-by}
use Rattle.pure_check.proofs.call.done.Goals as goal

pub returns-in-Generate-clause-ok : goal.returns-in-Generate-clause-ok
returns-in-Generate-clause-ok g c = done-by _ _ c.in-Generate.is _ _ c.check_generated.ensures.ok
