use Rattle.pure_pattern_laws.proofs.SoundLaws.{unifier_solves}
use Rattle.pure_pattern_laws.proofs.FreeLaws.{unifier_is_map}
use Rattle.pure_pattern_laws.proofs.laws.unifier_solves.Goals as goal

pub returns-clause-map : goal.returns-clause-map
returns-clause-map c = unifier_is_map

pub returns-clause-solves : goal.returns-clause-solves
returns-clause-solves c = unifier_solves
