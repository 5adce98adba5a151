use Rattle.pure_logic.proofs.TheoremMapLaws.{generalised_is_derivable, generalised_is_statement, generalised_has_only_index, fixed_map_keeps, generalisation_keeps}
use Rattle.pure_logic.proofs.laws.fixed_variables_made_schematic.Goals as goal

pub returns-clause-generalised : goal.returns-clause-generalised
returns-clause-generalised c = generalised_is_derivable

pub returns-clause-statement : goal.returns-clause-statement
returns-clause-statement c = generalised_is_statement

pub returns-clause-fixed : goal.returns-clause-fixed
returns-clause-fixed c = fixed_map_keeps

pub returns-clause-kept : goal.returns-clause-kept
returns-clause-kept c = generalisation_keeps

pub returns-clause-index : goal.returns-clause-index
returns-clause-index c = generalised_has_only_index
