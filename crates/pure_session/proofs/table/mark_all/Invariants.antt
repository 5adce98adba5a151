use Rattle.std.proofs.Common.{take}
use Rattle.pure_session.proofs.TableLemmas.{HasMarksOf}
use Rattle.pure_session.proofs.table.mark_all.Given as goal

abbrev pub invariant-loop-place : goal.invariant-loop-place
invariant-loop-place l = HasMarksOf l.initial.row.items (take l.place l.other) l.row.items
