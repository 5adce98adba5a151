use Rattle.pure_logic.proofs.TheoremExamples.{quantified_variable_example, context_example, abstracted_example}
use Rattle.pure_logic.proofs.examples.quantification_example.Goals as goal

pub returns-clause-quantified : goal.returns-clause-quantified
returns-clause-quantified c = quantified_variable_example

pub returns-clause-context : goal.returns-clause-context
returns-clause-context c = context_example

pub returns-clause-abstracted : goal.returns-clause-abstracted
returns-clause-abstracted c = abstracted_example
