use Rattle.std.proofs.Common.{take}
use Rattle.pure_order.specs.Domains.{IsAboveAnother}
use Rattle.pure_order.proofs.ReduceLaws.{AreKept}
use Rattle.pure_order.proofs.order.Order.reduce.Given as goal

abbrev pub invariant-loop-class : goal.invariant-loop-class
invariant-loop-class l = AreKept (λ c. ¬ IsAboveAnother l.self l.s c) (take l.class-index l.class-items) l.classes.items
