use Rattle.pure_term_laws.proofs.OrderExamples.{sort_respect_example, type_respect_example}
use Rattle.pure_term_laws.proofs.laws.respecting_example.Goals as goal

pub returns-clause-sorts : goal.returns-clause-sorts
returns-clause-sorts c = sort_respect_example

pub returns-clause-types : goal.returns-clause-types
returns-clause-types c = type_respect_example
