use Rattle.pure_policy_laws.proofs.ExampleLaws.{unlicensed}
use Rattle.pure_policy_laws.proofs.examples.unlicensed_is_refused.Goals as goal

pub returns : goal.returns
returns c = unlicensed
