use Rattle.pure_method.proofs.CloseLaws.{ClosesFrom, premise_count}
use Rattle.pure_method.proofs.close.closed.Given as goal

abbrev pub invariant-loop-now : goal.invariant-loop-now
invariant-loop-now g l = ClosesFrom l.theory l.fn.goal.thm l.now.thm

abbrev pub decreases-loop-now : goal.decreases-loop-now
decreases-loop-now g l = premise_count l.now.thm.prop
