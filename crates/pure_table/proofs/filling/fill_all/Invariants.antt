use Rattle.std.proofs.Common.{List, take, drop}
use Rattle.std.specs.List.{flat_map}
use Rattle.pure_print.specs.declared.row.Row as print
use Rattle.pure_promise.specs.Seen.{seen}
use Rattle.pure_promise.specs.Rows.{AreRowsOf}
use Rattle.pure_theory_run.specs.Outline.{outlines}
use Rattle.pure_table.specs.Filling.{places_of, Fills}
use Rattle.pure_table.proofs.filling.fill_all.Given as goal

abbrev pub invariant-loop-each : goal.invariant-loop-each
invariant-loop-each g l = (rows : List print.Row) → AreRowsOf l.lemmas.names.now (seen l.lemmas.entries.now) rows → Fills (g.T.TakesRows.holds l.initial.table) (g.T.TakesRows.holds l.table) (flat_map places_of (outlines (take l.each-index l.closed))) rows (drop l.next rows)
