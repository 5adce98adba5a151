use Rattle.std.proofs.Common.{take}
use Rattle.pure_order_tables.specs.ArityView.{arity_of, arities_of}
use Rattle.pure_order_tables.specs.Checks.{FindsAt}
use Rattle.pure_order_tables.specs.Uncovered.{Clears}
use Rattle.pure_order_tables.proofs.tables.Tables.least_colliding.Given as goal

abbrev pub invariant-loop-i : goal.invariant-loop-i
invariant-loop-i l = FindsAt (Clears l.self (arity_of l.arity) l.uncovered) l.arity.con (arities_of (take l.i l.arities)) l.least
