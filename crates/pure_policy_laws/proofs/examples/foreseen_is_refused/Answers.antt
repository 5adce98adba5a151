use Rattle.pure_policy_laws.proofs.ExampleLaws.{foreseen}
use Rattle.pure_policy_laws.proofs.examples.foreseen_is_refused.Goals as goal

pub returns : goal.returns
returns c = foreseen
