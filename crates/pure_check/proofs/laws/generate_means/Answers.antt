use Rattle.pure_check.proofs.TableLaws.{generate_means as law}
use Rattle.pure_check.proofs.laws.generate_means.Goals as goal

pub returns : goal.returns
returns g c = law c.one_reading.ensures _
