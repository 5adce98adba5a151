use Rattle.pure_read.proofs.FaultLaws.{one_term_fault}
use Rattle.pure_read.proofs.laws.one_term_fault.Goals as goal

pub returns : goal.returns
returns c = one_term_fault
