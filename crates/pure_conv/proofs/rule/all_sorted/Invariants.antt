use Rattle.std.proofs.Common.{take}
use Rattle.pure_definitions.specs.Terms.Subst.{AreSortRespecting}
use Rattle.pure_conv.proofs.rule.all_sorted.Given as goal

-- the images so far are of their sorts
abbrev pub invariant-loop-bind : goal.invariant-loop-bind
invariant-loop-bind l = AreSortRespecting l.order (take l.bind-index l.binds)
