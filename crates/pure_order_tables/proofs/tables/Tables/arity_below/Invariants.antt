use Rattle.std.proofs.Common.{take}
use Rattle.pure_text.specs.Lists.{EachTwo}
use Rattle.pure_definitions.specs.Types.Order.{IsSortBelow}
use Rattle.pure_order_tables.proofs.tables.Tables.arity_below.Given as goal

abbrev pub invariant-loop-i : goal.invariant-loop-i
invariant-loop-i l = EachTwo (IsSortBelow l.self) (take l.i l.firsts) (take l.i l.seconds)
