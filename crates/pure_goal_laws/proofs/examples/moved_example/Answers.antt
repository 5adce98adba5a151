use Rattle.pure_goal_laws.proofs.MovedExamples.{moved_example}
use Rattle.pure_goal_laws.proofs.examples.moved_example.Goals as goal

pub returns : goal.returns
returns c = moved_example
