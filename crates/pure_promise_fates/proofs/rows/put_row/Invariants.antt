use Rattle.pure_order_tables.proofs.RowLaws.{AreJoined}
use Rattle.pure_promise_fates.proofs.rows.put_row.Given as goal

abbrev pub invariant-loop-i : goal.invariant-loop-i
invariant-loop-i l = AreJoined l.fn.row.items l.other l.row.items l.i
