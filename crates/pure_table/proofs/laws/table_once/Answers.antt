use Rattle.pure_table.proofs.OnceLaws.{table_once as once}
use Rattle.pure_table.proofs.laws.table_once.Goals as goal

pub returns : goal.returns
returns c = once
