use Rattle.pure_order_tables.proofs.ArityTableLaws.{empty_tables}
use Rattle.pure_order_tables.proofs.tables.Tables.empty.Goals as goal

pub invariant_of-result : goal.invariant_of-result
invariant_of-result c = empty_tables _ _ _ c.empty-2.ensures c.empty-3.ensures
