use Rattle.pure_check.proofs.WordsLaws.{job_in_range as law}
use Rattle.pure_check.proofs.laws.job_in_range.Goals as goal

pub returns : goal.returns
returns c = law c.table_means.ensures
