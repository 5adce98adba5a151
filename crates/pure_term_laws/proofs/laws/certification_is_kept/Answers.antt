use Rattle.pure_term_laws.proofs.CertifiedLaws.{parts-lift, parts-subst, parts-bind}
use Rattle.pure_term_laws.proofs.laws.certification_is_kept.Goals as goal

pub returns : goal.returns
returns c = record { lifted = parts-lift; instantiated = parts-subst; abstracted = parts-bind }
