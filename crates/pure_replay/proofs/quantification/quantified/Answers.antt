use Rattle.pure_theorem.proofs.ClosedLaws.{closed-liftable}
use Rattle.pure_replay.proofs.quantification.quantified.Goals as goal

pub abstract_over-requires-clause-liftable : goal.abstract_over-requires-clause-liftable
abstract_over-requires-clause-liftable c = closed-liftable 1 0 c.args.body.now c.requires.closed
