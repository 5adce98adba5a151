use Rattle.pure_order_tables.proofs.KeptLaws.{IsSortRowSoFar}
use Rattle.pure_order_tables.proofs.tables.Tables.sort_row.Given as goal

abbrev pub invariant-loop-class : goal.invariant-loop-class
invariant-loop-class l = IsSortRowSoFar l.self l.classes l.row.items l.class-index
