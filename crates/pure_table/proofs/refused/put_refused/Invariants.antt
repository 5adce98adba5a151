use Rattle.std.proofs.Common.{◌++◌, List, map, take}
use Rattle.pure_print.specs.declared.row.Row as print
use Rattle.pure_session.specs.Refused.{all_refused}
use Rattle.pure_table.specs.Table.{refusal_row}
use Rattle.pure_table.proofs.refused.put_refused.Given as goal

abbrev pub invariant-loop-file : goal.invariant-loop-file
invariant-loop-file g l = (rows : List print.Row) → g.T.TakesRows.holds l.initial.table rows → g.T.TakesRows.holds l.table (rows ++ map refusal_row (all_refused (take l.file-index l.refused)))
