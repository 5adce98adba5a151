use Rattle.pure_goal_laws.proofs.PairExamples.{dropped_example, smashed_example, flexible_proof}
use Rattle.pure_goal_laws.proofs.examples.pair_example.Goals as goal

pub returns-clause-dropped : goal.returns-clause-dropped
returns-clause-dropped c = dropped_example

pub returns-clause-smashed : goal.returns-clause-smashed
returns-clause-smashed c = smashed_example

pub returns-clause-left_open : goal.returns-clause-left_open
returns-clause-left_open c = flexible_proof
