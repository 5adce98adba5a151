use Rattle.pure_term_laws.proofs.TypingBoundLaws.{typing-lift, typing-subst, typing-bind, typing-instance}
use Rattle.pure_term_laws.proofs.laws.typing_is_kept.Goals as goal

pub returns : goal.returns
returns c = record { lifted = typing-lift; instantiated = typing-subst; abstracted = typing-bind; mapped = typing-instance }
