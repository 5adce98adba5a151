use Rattle.pure_policy_laws.proofs.ExampleLaws.{out_of_order}
use Rattle.pure_policy_laws.proofs.examples.out_of_order_is_refused.Goals as goal

pub returns : goal.returns
returns c = out_of_order
