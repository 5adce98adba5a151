use Rattle.pure_logic.proofs.TheoremExamples.{name_example as names, kept_example, closed_example}
use Rattle.pure_logic.proofs.examples.name_example.Goals as goal

pub returns-clause-names : goal.returns-clause-names
returns-clause-names c = names

pub returns-clause-kept : goal.returns-clause-kept
returns-clause-kept c = kept_example

pub returns-clause-closed : goal.returns-clause-closed
returns-clause-closed c = closed_example
