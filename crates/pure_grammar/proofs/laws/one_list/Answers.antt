use Rattle.pure_grammar.proofs.Readings.{one_list}
use Rattle.pure_grammar.proofs.laws.one_list.Goals as goal

pub returns : goal.returns
returns c = one_list
