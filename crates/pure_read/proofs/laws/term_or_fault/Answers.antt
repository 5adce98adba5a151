use Rattle.pure_read.proofs.FaultLaws.{term_or_fault}
use Rattle.pure_read.proofs.laws.term_or_fault.Goals as goal

pub returns : goal.returns
returns c = term_or_fault
