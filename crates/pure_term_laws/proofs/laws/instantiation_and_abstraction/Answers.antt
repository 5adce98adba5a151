use Rattle.pure_definitions.proofs.LiftLaws.{subst-lift}
use Rattle.pure_term_laws.proofs.BoundLaws.{subst-bind, bind-subst}
use Rattle.pure_term_laws.proofs.laws.instantiation_and_abstraction.Goals as goal

pub returns : goal.returns
returns c = record { lifted = subst-lift; abstracted = subst-bind; back = bind-subst }
