use Rattle.std.proofs.Common.{ℕ, ◌≤◌, ◌⊎◌, ◌↔◌, length}
use Rattle.std.specs.List.Sorted.{IsStrictlyIncreasing}
use Rattle.pure_text.specs.Lists.{IsIn}
use Rattle.pure_order_tables.specs.ClassTable.{IsOtherNamed}
use Rattle.pure_order_tables.proofs.classes.ClassTable.put_others.Given as goal

abbrev pub invariant-loop-end : goal.invariant-loop-end
invariant-loop-end l = record {
  within : l.end ≤ length l.self;
  ascend : IsStrictlyIncreasing l.names.items;
  has : (x : ℕ) → IsIn x l.names.items ↔ (IsIn x l.fn.names.items ⊎ IsOtherNamed l.self l.row l.seen x l.end);
}

abbrev pub decreases-loop-end : goal.decreases-loop-end
decreases-loop-end l = l.end
