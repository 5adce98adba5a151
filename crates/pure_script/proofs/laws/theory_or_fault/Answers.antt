use Rattle.pure_script.proofs.FaultLaws.{theory_or_fault}
use Rattle.pure_script.proofs.laws.theory_or_fault.Goals as goal

pub returns : goal.returns
returns c = theory_or_fault
