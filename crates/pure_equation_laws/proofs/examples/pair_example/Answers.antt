use Rattle.pure_equation_laws.proofs.RedexExamples.{redex_example, other_pairs_example, instance_example}
use Rattle.pure_equation_laws.proofs.examples.pair_example.Goals as goal

pub returns-clause-redex : goal.returns-clause-redex
returns-clause-redex c = redex_example

pub returns-clause-others : goal.returns-clause-others
returns-clause-others c = other_pairs_example

pub returns-clause-instance : goal.returns-clause-instance
returns-clause-instance c = instance_example
