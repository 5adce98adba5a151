use Rattle.pure_unify.proofs.ResolvedLaws.{IsSoFar}
use Rattle.pure_unify.proofs.resolve.later_of.Given as goal

abbrev pub invariant-loop-left : goal.invariant-loop-left
invariant-loop-left l = IsSoFar l.settings l.left l.later

abbrev pub decreases-loop-left : goal.decreases-loop-left
decreases-loop-left l = l.left
