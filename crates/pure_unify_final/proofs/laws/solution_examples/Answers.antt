use Rattle.pure_unify_final.proofs.ExampleLaws.{no_solution_example, solution_example, firm_example, occurring_example}
use Rattle.pure_unify_final.proofs.laws.solution_examples.Goals as goal

pub returns-clause-none : goal.returns-clause-none
returns-clause-none c = no_solution_example

pub returns-clause-some : goal.returns-clause-some
returns-clause-some c = solution_example

pub returns-clause-firm : goal.returns-clause-firm
returns-clause-firm c = firm_example

pub returns-clause-occurring : goal.returns-clause-occurring
returns-clause-occurring c = occurring_example
