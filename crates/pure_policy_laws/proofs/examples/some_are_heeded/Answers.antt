use Rattle.pure_policy_laws.proofs.ExampleLaws.{some_heeded}
use Rattle.pure_policy_laws.proofs.examples.some_are_heeded.Goals as goal

pub returns : goal.returns
returns c = some_heeded
