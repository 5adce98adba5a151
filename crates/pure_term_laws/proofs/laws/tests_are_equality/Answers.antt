use Rattle.pure_definitions.specs.Models.Equality.{typ_eq-is_equality, term_eq-is_equality}
use Rattle.pure_term_laws.proofs.laws.tests_are_equality.Goals as goal

pub returns-clause-types : goal.returns-clause-types
returns-clause-types c = typ_eq-is_equality

pub returns-clause-terms : goal.returns-clause-terms
returns-clause-terms c = term_eq-is_equality
