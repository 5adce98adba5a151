use Rattle.std.proofs.Common.{take}
use Rattle.pure_order_tables.specs.ArityView.{arities_of}
use Rattle.pure_order_tables.specs.Uncovered.{AreElsewhere}
use Rattle.pure_order_tables.proofs.tables.Tables.are_elsewhere.Given as goal

abbrev pub invariant-loop-i : goal.invariant-loop-i
invariant-loop-i l = AreElsewhere l.self l.con l.row (arities_of (take l.i l.arities))
