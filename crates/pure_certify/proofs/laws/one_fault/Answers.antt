use Rattle.pure_certify.proofs.PartLemmas.{one_fault as once, faulty_is_not_sound}
use Rattle.pure_certify.proofs.laws.one_fault.Goals as goal

pub returns-clause-one : goal.returns-clause-one
returns-clause-one c = once

pub returns-clause-faulty : goal.returns-clause-faulty
returns-clause-faulty c = faulty_is_not_sound
