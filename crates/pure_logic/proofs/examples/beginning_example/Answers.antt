use Rattle.pure_logic.proofs.ContentExamples.{beginning_example as begins, not_apart_example}
use Rattle.pure_logic.proofs.examples.beginning_example.Goals as goal

pub returns-clause-beginning : goal.returns-clause-beginning
returns-clause-beginning c = begins

pub returns-clause-not_apart : goal.returns-clause-not_apart
returns-clause-not_apart c = not_apart_example
