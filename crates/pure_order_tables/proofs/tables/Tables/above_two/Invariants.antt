use Rattle.std.proofs.Common.{take}
use Rattle.pure_order_tables.specs.Twice.{AreRowsAbove}
use Rattle.pure_order_tables.proofs.tables.Tables.above_two.Given as goal

abbrev pub invariant-loop-class : goal.invariant-loop-class
invariant-loop-class l = AreRowsAbove l.self (take l.class-index l.class-items) l.once.items l.twice.items
