use Rattle.std.proofs.Common.{take}
use Rattle.pure_text.specs.Lists.{IsIn}
use Rattle.pure_order_tables.specs.ArityView.{arity_of, arities_of}
use Rattle.pure_order_tables.proofs.tables.Tables.has_same.Given as goal

abbrev pub invariant-loop-i : goal.invariant-loop-i
invariant-loop-i l = ¬ IsIn (arity_of l.arity) (arities_of (take l.i l.arities))
