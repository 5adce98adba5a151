use Rattle.std.proofs.Common.{take}
use Rattle.pure_tunify.specs.Asks.{AreAskedOfArguments}
use Rattle.pure_tunify.proofs.asks.asked_of_arguments.Given as goal

abbrev pub invariant-loop-class : goal.invariant-loop-class
invariant-loop-class l = AreAskedOfArguments l.order l.con (take l.class-index l.class-items) l.count l.sorts.items
