use Rattle.pure_read.proofs.FaultLaws.{type_or_fault}
use Rattle.pure_read.proofs.laws.type_or_fault.Goals as goal

pub returns : goal.returns
returns c = type_or_fault
