use Rattle.pure_order_tables.proofs.KeptLaws.{AreRowsSoFar}
use Rattle.pure_order_tables.proofs.tables.Tables.kept_rows.Given as goal

abbrev pub invariant-loop-sort : goal.invariant-loop-sort
invariant-loop-sort l = AreRowsSoFar l.self.classes l.sorts l.rows.items l.sort-index
