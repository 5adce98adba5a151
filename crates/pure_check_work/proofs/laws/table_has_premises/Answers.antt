use Rattle.pure_check_work.proofs.TableLaws.{table_has_premises as law}
use Rattle.pure_check_work.proofs.laws.table_has_premises.Goals as goal

pub returns : goal.returns
returns c = law
