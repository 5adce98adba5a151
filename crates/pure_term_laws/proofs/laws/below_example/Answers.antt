use Rattle.pure_term_laws.proofs.OrderExamples.{below_example, sort_below_example, of_sort_example, wrong_count_example}
use Rattle.pure_term_laws.proofs.laws.below_example.Goals as goal

pub returns-clause-classes : goal.returns-clause-classes
returns-clause-classes c = below_example

pub returns-clause-sorts : goal.returns-clause-sorts
returns-clause-sorts c = sort_below_example

pub returns-clause-types : goal.returns-clause-types
returns-clause-types c = of_sort_example

pub returns-clause-wrong_count : goal.returns-clause-wrong_count
returns-clause-wrong_count c = wrong_count_example
