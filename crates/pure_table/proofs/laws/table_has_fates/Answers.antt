use Rattle.pure_table.proofs.DerivedLaws.{table_has_fates as fates}
use Rattle.pure_table.proofs.laws.table_has_fates.Goals as goal

pub returns : goal.returns
returns c = fates
