use Rattle.pure_policy_laws.proofs.ExampleLaws.{disobeyed}
use Rattle.pure_policy_laws.proofs.examples.disobeyed_is_refused.Goals as goal

pub returns : goal.returns
returns c = disobeyed
