use Rattle.std.proofs.Common.{take}
use Rattle.pure_text.specs.Lists.{Each}
use Rattle.pure_definitions.specs.Types.Order.{IsClassBelow}
use Rattle.pure_tunify.proofs.demands.has_class_below.Given as goal

abbrev pub invariant-loop-own : goal.invariant-loop-own
invariant-loop-own l = Each (λ b. ¬ IsClassBelow l.order b l.class) (take l.own-index l.own-items)
