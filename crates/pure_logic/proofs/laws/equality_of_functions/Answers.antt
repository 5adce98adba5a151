use Rattle.pure_logic.proofs.EqualityLaws.{equal_functions, beta_equality, eta_equality, equal_abstractions}
use Rattle.pure_logic.proofs.laws.equality_of_functions.Goals as goal

pub returns-clause-functions : goal.returns-clause-functions
returns-clause-functions c = equal_functions

pub returns-clause-beta : goal.returns-clause-beta
returns-clause-beta c = beta_equality

pub returns-clause-eta : goal.returns-clause-eta
returns-clause-eta c = eta_equality

pub returns-clause-abstractions : goal.returns-clause-abstractions
returns-clause-abstractions c = equal_abstractions
