use Rattle.pure_grammar.proofs.Readings.{one_fault}
use Rattle.pure_grammar.proofs.laws.one_fault.Goals as goal

pub returns : goal.returns
returns c = one_fault
