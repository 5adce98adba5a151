use Rattle.pure_term_laws.proofs.MapLaws.{instance-lift, instance-subst, instance-bind, instance-instance}
use Rattle.pure_term_laws.proofs.laws.maps_past.Goals as goal

pub returns : goal.returns
returns c = record { lifted = instance-lift; instantiated = instance-subst; abstracted = instance-bind; again = instance-instance }
