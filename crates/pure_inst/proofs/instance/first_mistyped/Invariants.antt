use Rattle.std.proofs.Common.{take}
use Rattle.pure_definitions.specs.Terms.Subst.{AreTypeRespecting}
use Rattle.pure_inst.proofs.instance.first_mistyped.Given as goal

abbrev pub invariant-loop-place : goal.invariant-loop-place
invariant-loop-place l = AreTypeRespecting (take l.place l.binds)
