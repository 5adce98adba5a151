use Rattle.pure_check.proofs.JobLemmas.{given, wrote-weaker}
use Rattle.pure_check.proofs.call.ended.Goals as goal

pub returns-in-Ok-clause-wrote : goal.returns-in-Ok-clause-wrote
returns-in-Ok-clause-wrote g c = wrote-weaker _ _ _ _ _ (given _ _ _ c.in-Ok.ensures.ok _) c.write_answer.ensures.wrote
