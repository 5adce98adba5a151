use Rattle.pure_policy_laws.proofs.ExampleLaws.{second_fault}
use Rattle.pure_policy_laws.proofs.examples.second_fault_is_refused.Goals as goal

pub returns : goal.returns
returns c = second_fault
