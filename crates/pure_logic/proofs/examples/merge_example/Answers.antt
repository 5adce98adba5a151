use Rattle.pure_logic.proofs.ContentExamples.{no_merge_example, middle_merge_example}
use Rattle.pure_logic.proofs.examples.merge_example.Goals as goal

pub returns-clause-none : goal.returns-clause-none
returns-clause-none c = no_merge_example

pub returns-clause-middle : goal.returns-clause-middle
returns-clause-middle c = middle_merge_example
