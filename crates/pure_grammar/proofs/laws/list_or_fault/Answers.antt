use Rattle.pure_grammar.proofs.Readings.{list_or_fault}
use Rattle.pure_grammar.proofs.laws.list_or_fault.Goals as goal

pub returns : goal.returns
returns c = list_or_fault
