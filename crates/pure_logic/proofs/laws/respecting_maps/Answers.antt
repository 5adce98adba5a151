use Rattle.pure_logic.proofs.MapLaws.{identity_respects, joined_respect, joined_instance}
use Rattle.pure_logic.proofs.SubstitutionLaws.{images_closed}
use Rattle.pure_logic.proofs.NameLaws.{joined_maps_keep_fixed}
use Rattle.pure_logic.proofs.laws.respecting_maps.Goals as goal

pub returns-clause-identity : goal.returns-clause-identity
returns-clause-identity c = identity_respects

pub returns-clause-joined : goal.returns-clause-joined
returns-clause-joined c = joined_respect

pub returns-clause-instance : goal.returns-clause-instance
returns-clause-instance c = joined_instance

pub returns-clause-closed : goal.returns-clause-closed
returns-clause-closed c = images_closed

pub returns-clause-fixed : goal.returns-clause-fixed
returns-clause-fixed c = joined_maps_keep_fixed
