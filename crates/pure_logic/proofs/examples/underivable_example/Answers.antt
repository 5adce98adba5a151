use Rattle.pure_logic.proofs.UnderivableExamples.{underivable_example as underivable}
use Rattle.pure_logic.proofs.NodeExamples.{no_proposition_example}
use Rattle.pure_logic.proofs.examples.underivable_example.Goals as goal

pub returns-clause-underivable : goal.returns-clause-underivable
returns-clause-underivable c = underivable

pub returns-clause-without_pure : goal.returns-clause-without_pure
returns-clause-without_pure c = no_proposition_example
