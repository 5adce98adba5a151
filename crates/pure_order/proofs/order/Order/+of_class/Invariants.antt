use Rattle.std.proofs.Common.{take}
use Rattle.pure_text.specs.Lists.{Each, EachTwo}
use Rattle.pure_definitions.specs.Types.Order.{IsOfClass, IsOfSort}
use Rattle.pure_order.proofs.order.Order.+of_class.Given as goal

abbrev pub invariant-loop-i : goal.invariant-loop-i
invariant-loop-i l = EachTwo (IsOfSort l.self) (take l.i l.args) (take l.i l.domains)

abbrev pub invariant-loop-lower : goal.invariant-loop-lower
invariant-loop-lower l = Each (IsOfClass l.self l.arg) (take l.lower-index l.lower-items)
