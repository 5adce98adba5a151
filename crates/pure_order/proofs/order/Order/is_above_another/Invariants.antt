use Rattle.std.proofs.Common.{take}
use Rattle.pure_order.specs.Domains.{IsAboveAnother}
use Rattle.pure_order.proofs.order.Order.is_above_another.Given as goal

abbrev pub invariant-loop-other : goal.invariant-loop-other
invariant-loop-other l = ¬ IsAboveAnother l.self (take l.other-index l.classes) l.class
