use Rattle.pure_table.proofs.DerivedLaws.{table_is_derived as derived}
use Rattle.pure_table.proofs.laws.table_is_derived.Goals as goal

pub returns : goal.returns
returns c = derived
