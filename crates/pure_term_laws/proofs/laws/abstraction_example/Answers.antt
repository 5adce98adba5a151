use Rattle.pure_term_laws.proofs.TypingLaws.{occurs-itself}
use Rattle.pure_term_laws.proofs.laws.abstraction_example.Goals as goal

pub returns-clause-itself : goal.returns-clause-itself
returns-clause-itself c = occurs-itself
