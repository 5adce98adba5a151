use Rattle.pure_goal_laws.proofs.DetachedExamples.{elimination_proof}
use Rattle.pure_goal_laws.proofs.examples.elimination_proof.Goals as goal

pub returns : goal.returns
returns c = elimination_proof
