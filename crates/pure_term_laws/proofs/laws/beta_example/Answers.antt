use Rattle.pure_term_laws.proofs.BetaLaws.{beta_answer_example, endless_example, large_example}
use Rattle.pure_term_laws.proofs.laws.beta_example.Goals as goal

pub returns-clause-answer : goal.returns-clause-answer
returns-clause-answer c = beta_answer_example

pub returns-clause-endless : goal.returns-clause-endless
returns-clause-endless c = endless_example

pub returns-clause-large : goal.returns-clause-large
returns-clause-large c = large_example
