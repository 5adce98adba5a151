use Rattle.std.proofs.Common.{ℕ, List, ◌≤◌, length}
use Rattle.pure_order_tables.specs.ClassTable.{HasNumbers}
use Rattle.pure_order_tables.proofs.ClassTableLaws.{IsRowSoFar}
use Rattle.pure_order_tables.proofs.classes.ClassTable.new_row.Given as goal

abbrev pub invariant-loop-end : goal.invariant-loop-end
invariant-loop-end l = record {
  within : l.end ≤ length l.self;
  so_far : (above : List ℕ) → HasNumbers l.self above l.numbers → IsRowSoFar l.self above l.numbers l.row.items l.end;
}

abbrev pub decreases-loop-end : goal.decreases-loop-end
decreases-loop-end l = l.end
