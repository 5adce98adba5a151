use Rattle.pure_method.proofs.CloseLaws.{closes-start, closes-turn, closes-end, fewer-premises}
use Rattle.pure_method.proofs.close.closed.Goals as goal

pub loop-now-init : goal.loop-now-init
loop-now-init g c = closes-start c.args.theory.now c.args.goal.thm c.requires.goal

pub loop-now-smaller : goal.loop-now-smaller
loop-now-smaller g c = fewer-premises c.args.theory.now c.loop-now.now.thm c.in-Some.next.thm (rw c.in-Some.is at c.in_ok-next.ensures)

pub loop-now-preserved : goal.loop-now-preserved
loop-now-preserved g c = closes-turn c.args.theory.now c.args.goal.thm c.loop-now.now.thm c.in-Some.next.thm c.loop-now.invariant (rw c.in-Some.is at c.in_ok-next.ensures)

pub returns : goal.returns
returns g c = closes-end c.args.theory.now c.args.goal.thm c.loop-now.now.thm c.loop-now.invariant (rw c.in_default.is at c.in_ok-next.ensures)
