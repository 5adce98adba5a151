use Rattle.pure_term_laws.proofs.OccursLaws.{typ_variable_of_typ_instance, variable_of_instance, typ_variable_of_instance}
use Rattle.pure_term_laws.proofs.laws.variables_of_instance.Goals as goal

pub returns-clause-in_type : goal.returns-clause-in_type
returns-clause-in_type c = typ_variable_of_typ_instance

pub returns-clause-variable : goal.returns-clause-variable
returns-clause-variable c = variable_of_instance

pub returns-clause-type_variable : goal.returns-clause-type_variable
returns-clause-type_variable c = λ typs terms v t is. typ_variable_of_instance typs terms v is t
