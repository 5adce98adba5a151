use Rattle.std.proofs.Common.{take}
use Rattle.pure_definitions.specs.Types.Order.{IsSortBelow}
use Rattle.pure_order_tables.proofs.tables.Tables.is_below_by_words.Given as goal

abbrev pub invariant-loop-class : goal.invariant-loop-class
invariant-loop-class l = IsSortBelow l.self l.first (take l.class-index l.class-items)
