use Rattle.std.proofs.Common.{take}
use Rattle.pure_tunify.specs.Reached.{IsReached}
use Rattle.pure_tunify.proofs.reached.reached.Given as goal

abbrev pub invariant-loop-bind : goal.invariant-loop-bind
invariant-loop-bind l = IsReached (take l.bind-index l.bind-items) l.t l.typs.items
