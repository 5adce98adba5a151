use Rattle.pure_method.proofs.ExampleLaws.{second_step_example, first_step_example, left_example}
use Rattle.pure_method.proofs.examples.failed_examples.Goals as goal

pub returns-clause-second : goal.returns-clause-second
returns-clause-second c = second_step_example

pub returns-clause-first : goal.returns-clause-first
returns-clause-first c = first_step_example

pub returns-clause-left : goal.returns-clause-left
returns-clause-left c = left_example
