use Rattle.pure_goal_laws.proofs.ExampleLaws.{assumption_proof}
use Rattle.pure_goal_laws.proofs.examples.assumption_proof.Goals as goal

pub returns : goal.returns
returns c = assumption_proof
