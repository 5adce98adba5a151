use Rattle.pure_goal_laws.proofs.DetachedExamples.{destruction_proof}
use Rattle.pure_goal_laws.proofs.examples.destruction_proof.Goals as goal

pub returns : goal.returns
returns c = destruction_proof
