use Rattle.pure_read.proofs.FaultLaws.{one_type_fault}
use Rattle.pure_read.proofs.laws.one_type_fault.Goals as goal

pub returns : goal.returns
returns c = one_type_fault
