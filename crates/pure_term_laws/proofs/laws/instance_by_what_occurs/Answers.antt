use Rattle.pure_term_laws.proofs.OccursLaws.{typ_instances-agree, agreeing_instance, schematic_map_keeps}
use Rattle.pure_term_laws.proofs.laws.instance_by_what_occurs.Goals as goal

pub returns-clause-types : goal.returns-clause-types
returns-clause-types c = typ_instances-agree

pub returns-clause-terms : goal.returns-clause-terms
returns-clause-terms c = agreeing_instance

pub returns-clause-schematic : goal.returns-clause-schematic
returns-clause-schematic c = schematic_map_keeps
