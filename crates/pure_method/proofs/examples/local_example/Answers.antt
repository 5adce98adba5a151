use Rattle.pure_method.proofs.LocalExampleLaws.{local_example}
use Rattle.pure_method.proofs.examples.local_example.Goals as goal

pub returns : goal.returns
returns c = local_example
