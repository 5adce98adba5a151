use Rattle.pure_term_laws.proofs.MapLaws.{subst-past-lift, subst-past-subst, size-le-subst, depth-le-subst}
use Rattle.pure_term_laws.proofs.laws.instantiation_past.Goals as goal

pub returns : goal.returns
returns c = record { lifted = subst-past-lift; instantiated = subst-past-subst; size = size-le-subst; depth = depth-le-subst }
