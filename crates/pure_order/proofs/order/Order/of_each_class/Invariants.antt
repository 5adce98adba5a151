use Rattle.std.proofs.Common.{take}
use Rattle.pure_definitions.specs.Types.Order.{IsOfSort}
use Rattle.pure_order.proofs.order.Order.of_each_class.Given as goal

abbrev pub invariant-loop-class : goal.invariant-loop-class
invariant-loop-class l = IsOfSort l.self l.t (take l.class-index l.class-items)
