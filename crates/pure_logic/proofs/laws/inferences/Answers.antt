use Rattle.pure_logic.proofs.InferenceLaws.{inferred_from_one, inferred_from_two, implies_elim_is_derivable, implies_intro_is_derivable, all_elim_is_derivable, all_intro_is_derivable}
use Rattle.pure_logic.proofs.laws.inferences.Goals as goal

pub returns-clause-from_one : goal.returns-clause-from_one
returns-clause-from_one c = inferred_from_one

pub returns-clause-from_two : goal.returns-clause-from_two
returns-clause-from_two c = inferred_from_two

pub returns-clause-implies_elim : goal.returns-clause-implies_elim
returns-clause-implies_elim c = implies_elim_is_derivable

pub returns-clause-implies_intro : goal.returns-clause-implies_intro
returns-clause-implies_intro c = implies_intro_is_derivable

pub returns-clause-all_elim : goal.returns-clause-all_elim
returns-clause-all_elim c = all_elim_is_derivable

pub returns-clause-all_intro : goal.returns-clause-all_intro
returns-clause-all_intro c = all_intro_is_derivable
