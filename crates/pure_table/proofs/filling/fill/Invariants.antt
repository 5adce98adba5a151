use Rattle.std.proofs.Common.{List, take, drop}
use Rattle.pure_print.specs.declared.row.Row as print
use Rattle.pure_promise.specs.Seen.{seen}
use Rattle.pure_promise.specs.Rows.{AreRowsOf}
use Rattle.pure_table.specs.Filling.{Fills}
use Rattle.pure_table.proofs.filling.fill.Given as goal

abbrev pub invariant-loop-place : goal.invariant-loop-place
invariant-loop-place g l = (rows : List print.Row) → AreRowsOf l.lemmas.names.now (seen l.lemmas.entries.now) rows → Fills (g.T.TakesRows.holds l.initial.table) (g.T.TakesRows.holds l.table) (take l.place-index l.places) (drop l.fn.next rows) (drop l.next rows)
