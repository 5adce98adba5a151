use Rattle.pure_definitions.specs.Types.Typ.{prop}
use Rattle.pure_term_laws.proofs.TypingLaws.{typed-closed}
use Rattle.pure_logic.proofs.PropositionLaws.{derivable_is_proposition}
use Rattle.pure_kernel.proofs.known.theorem_is_closed.Goals as goal

pub returns-clause-proposition : goal.returns-clause-proposition
returns-clause-proposition c = λ h. derivable_is_proposition c.args.theory.now c.content_is_sound.ensures.content c.content_is_sound.ensures.above_pure c.args.th.now h

pub returns-clause-closed : goal.returns-clause-closed
returns-clause-closed c = λ h. typed-closed c.args.th.now.prop prop (returns-clause-proposition c h).typed
