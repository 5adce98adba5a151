use Rattle.pure_order_tables.proofs.RowLaws.{AreJoined}
use Rattle.pure_order_tables.proofs.rows.put_words.Given as goal

abbrev pub invariant-loop-i : goal.invariant-loop-i
invariant-loop-i l = AreJoined l.initial.words l.row l.words l.i
