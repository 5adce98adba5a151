use Rattle.std.proofs.Common.{◌≡◌, map, take}
use Rattle.pure_print.specs.declared.row.Row as print
use Rattle.pure_check.proofs.formed.last_line_of.Given as goal

abbrev pub invariant-loop-row : goal.invariant-loop-row
invariant-loop-row l = l.statuses.items ≡ map print.Row.status (take l.row-index l.rows)
