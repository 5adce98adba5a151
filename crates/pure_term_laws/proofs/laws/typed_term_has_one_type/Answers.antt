use Rattle.pure_term_laws.proofs.TypingLaws.{typed-once, typed-closed}
use Rattle.pure_term_laws.proofs.laws.typed_term_has_one_type.Goals as goal

pub returns-clause-one : goal.returns-clause-one
returns-clause-one c = typed-once

pub returns-clause-closed : goal.returns-clause-closed
returns-clause-closed c = typed-closed
