use Rattle.pure_grammar.proofs.InnerLemmas.{one_type}
use Rattle.pure_grammar.proofs.laws.one_type.Goals as goal

pub returns : goal.returns
returns c = one_type
