use Rattle.pure_table.proofs.ThereLaws.{table_is_there as law}
use Rattle.pure_table.proofs.laws.table_is_there.Goals as goal

pub returns : goal.returns
returns c = law
