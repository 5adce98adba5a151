use Rattle.pure_method.proofs.ExampleLaws.{assumption_example, closed_example, derivable_example}
use Rattle.pure_method.proofs.examples.proved_examples.Goals as goal

pub returns-clause-assumption : goal.returns-clause-assumption
returns-clause-assumption c = assumption_example

pub returns-clause-closed : goal.returns-clause-closed
returns-clause-closed c = closed_example

pub returns-clause-derivable : goal.returns-clause-derivable
returns-clause-derivable c = derivable_example
