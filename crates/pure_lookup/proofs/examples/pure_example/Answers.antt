use Rattle.pure_lookup.proofs.ExampleLemmas.{pure_example as pure, protect_example}
use Rattle.pure_lookup.proofs.examples.pure_example.Goals as goal

pub returns-clause-pure : goal.returns-clause-pure
returns-clause-pure c = pure

pub returns-clause-protect : goal.returns-clause-protect
returns-clause-protect c = protect_example
