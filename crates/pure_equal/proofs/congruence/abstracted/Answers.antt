use Rattle.pure_theorem.proofs.ClosedLaws.{closed-liftable}
use Rattle.pure_equal.proofs.congruence.abstracted.Goals as goal

pub abstract_over-requires-clause-liftable : goal.abstract_over-requires-clause-liftable
abstract_over-requires-clause-liftable c = closed-liftable 1 0 c.args.left.now c.requires.closed_left

pub abstract_over-requires-2-clause-liftable : goal.abstract_over-requires-2-clause-liftable
abstract_over-requires-2-clause-liftable c = closed-liftable 1 0 c.args.right.now c.requires.closed_right
