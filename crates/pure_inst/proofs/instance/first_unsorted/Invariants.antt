use Rattle.std.proofs.Common.{take}
use Rattle.pure_definitions.specs.Terms.Subst.{AreSortRespecting}
use Rattle.pure_inst.proofs.instance.first_unsorted.Given as goal

abbrev pub invariant-loop-place : goal.invariant-loop-place
invariant-loop-place l = AreSortRespecting l.order (take l.place l.binds)
