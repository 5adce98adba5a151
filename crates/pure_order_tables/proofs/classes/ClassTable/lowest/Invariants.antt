use Rattle.std.proofs.Common.{ℕ, ◌<◌, ◌≤◌, length}
use Rattle.pure_order_tables.specs.Rows.{Holds}
use Rattle.pure_order_tables.proofs.classes.ClassTable.lowest.Given as goal

abbrev pub invariant-loop-end : goal.invariant-loop-end
invariant-loop-end l = record {
  within : l.end ≤ length l.self;
  none : (n : ℕ) → l.end ≤ n → n < length l.self → ¬ Holds l.numbers n;
}

abbrev pub decreases-loop-end : goal.decreases-loop-end
decreases-loop-end l = l.end
