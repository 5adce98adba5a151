use Rattle.std.proofs.Common.{take}
use Rattle.pure_definitions.specs.Terms.Subst.{AreTypeRespecting}
use Rattle.pure_resolve.proofs.settle.are_typed.Given as goal

abbrev pub invariant-loop-bind : goal.invariant-loop-bind
invariant-loop-bind l = AreTypeRespecting (take l.bind-index l.binds)
