use Rattle.pure_equation_laws.proofs.RedexExamples.{proposition_example, pairs_example}
use Rattle.pure_equation_laws.proofs.examples.derivable_example.Goals as goal

pub returns-clause-proposition : goal.returns-clause-proposition
returns-clause-proposition c = proposition_example

pub returns-clause-pairs : goal.returns-clause-pairs
returns-clause-pairs c = pairs_example
