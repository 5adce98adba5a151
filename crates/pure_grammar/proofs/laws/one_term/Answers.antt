use Rattle.pure_grammar.proofs.InnerLemmas.{one_term}
use Rattle.pure_grammar.proofs.laws.one_term.Goals as goal

pub returns : goal.returns
returns c = one_term
