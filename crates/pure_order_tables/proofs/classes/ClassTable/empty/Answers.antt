use Rattle.pure_order_tables.proofs.ClassTableLaws.{empty_classes}
use Rattle.pure_order_tables.proofs.classes.ClassTable.empty.Goals as goal

pub invariant_of-result : goal.invariant_of-result
invariant_of-result c = empty_classes _ _ c.empty.ensures c.empty-2.ensures
