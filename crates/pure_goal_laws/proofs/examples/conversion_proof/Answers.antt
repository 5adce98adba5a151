use Rattle.pure_goal_laws.proofs.DetachedExamples.{conversion_proof}
use Rattle.pure_goal_laws.proofs.examples.conversion_proof.Goals as goal

pub returns : goal.returns
returns c = conversion_proof
