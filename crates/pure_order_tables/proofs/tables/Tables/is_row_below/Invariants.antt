use Rattle.std.proofs.Common.{ℕ, List, take}
use Rattle.pure_definitions.specs.Types.Order.{IsSortBelow}
use Rattle.pure_order_tables.specs.Kept.{IsSortRow}
use Rattle.pure_order_tables.proofs.tables.Tables.is_row_below.Given as goal

abbrev pub invariant-loop-class : goal.invariant-loop-class
invariant-loop-class l = (s : List ℕ) → IsSortRow l.self.classes s l.row → IsSortBelow l.self s (take l.class-index l.class-items)
