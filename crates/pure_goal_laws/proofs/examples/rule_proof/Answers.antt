use Rattle.pure_goal_laws.proofs.ExampleLaws.{rule_proof}
use Rattle.pure_goal_laws.proofs.examples.rule_proof.Goals as goal

pub returns : goal.returns
returns c = rule_proof
