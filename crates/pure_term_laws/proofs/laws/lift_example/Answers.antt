use Rattle.pure_term_laws.proofs.TypingLaws.{lift-closed}
use Rattle.pure_term_laws.proofs.laws.lift_example.Goals as goal

pub returns-clause-closed : goal.returns-clause-closed
returns-clause-closed c = lift-closed
