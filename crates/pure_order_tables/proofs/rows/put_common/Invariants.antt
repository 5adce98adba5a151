use Rattle.pure_order_tables.proofs.RowLaws.{AreJoined, common}
use Rattle.pure_order_tables.proofs.rows.put_common.Given as goal

abbrev pub invariant-loop-i : goal.invariant-loop-i
invariant-loop-i l = AreJoined l.fn.row.items (common l.first l.second) l.row.items l.i
