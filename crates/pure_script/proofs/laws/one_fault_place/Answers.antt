use Rattle.pure_script.proofs.FaultLaws.{one_fault_place}
use Rattle.pure_script.proofs.laws.one_fault_place.Goals as goal

pub returns : goal.returns
returns c = one_fault_place
