use Rattle.pure_check.proofs.TableLaws.{check_means as law}
use Rattle.pure_check.proofs.laws.check_means.Goals as goal

pub returns : goal.returns
returns g c = law c.one_reading.ensures _
