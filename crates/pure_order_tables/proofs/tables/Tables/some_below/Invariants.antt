use Rattle.std.proofs.Common.{take}
use Rattle.pure_definitions.specs.Types.Order.{HasClassBelow}
use Rattle.pure_order_tables.proofs.tables.Tables.some_below.Given as goal

abbrev pub invariant-loop-lower : goal.invariant-loop-lower
invariant-loop-lower l = ¬ HasClassBelow l.self (take l.lower-index l.classes) l.class
