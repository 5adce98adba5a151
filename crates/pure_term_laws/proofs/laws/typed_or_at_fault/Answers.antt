use Rattle.pure_term_laws.proofs.FaultLaws.{typed_or_at_fault as typed_or, typed-not_at_fault, one_place_of_fault}
use Rattle.pure_term_laws.proofs.laws.typed_or_at_fault.Goals as goal

pub returns-clause-either : goal.returns-clause-either
returns-clause-either c = typed_or

pub returns-clause-not_both : goal.returns-clause-not_both
returns-clause-not_both c = typed-not_at_fault

pub returns-clause-one : goal.returns-clause-one
returns-clause-one c = one_place_of_fault
