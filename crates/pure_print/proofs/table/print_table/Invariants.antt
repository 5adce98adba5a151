use Rattle.std.proofs.Common.{take}
use Rattle.pure_print.specs.Growing.{HoldsRows}
use Rattle.pure_print.proofs.table.print_table.Given as goal

abbrev pub invariant-loop-row : goal.invariant-loop-row
invariant-loop-row l = HoldsRows l.table (take l.row-index l.rows)
