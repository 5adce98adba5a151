use Rattle.pure_logic.proofs.SubstitutionLaws.{substitution_of_trees, instance_is_proved, instance_is_derivable}
use Rattle.pure_logic.proofs.laws.substitution_is_admissible.Goals as goal

pub returns-clause-trees : goal.returns-clause-trees
returns-clause-trees c = substitution_of_trees

pub returns-clause-proved : goal.returns-clause-proved
returns-clause-proved c = instance_is_proved

pub returns-clause-derivable : goal.returns-clause-derivable
returns-clause-derivable c = instance_is_derivable
