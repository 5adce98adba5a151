use Rattle.std.proofs.Common.{◌≤◌, length}
use Rattle.pure_order_tables.specs.ArityView.{arity_of}
use Rattle.pure_order_tables.specs.Uncovered.{IsBelowPlace}
use Rattle.pure_order_tables.proofs.UncoveredLaws.{IsUncoveredSoFar}
use Rattle.pure_order_tables.proofs.tables.Tables.uncovered.Given as goal

abbrev pub invariant-loop-end : goal.invariant-loop-end
invariant-loop-end l = record {
  within : l.end ≤ length l.self.classes;
  bare : ¬ IsBelowPlace l.self l.other (arity_of l.arity) l.bare;
  seen : IsUncoveredSoFar l.self l.other (arity_of l.arity) l.row.items l.covered.items l.end;
}

abbrev pub decreases-loop-end : goal.decreases-loop-end
decreases-loop-end l = l.end
