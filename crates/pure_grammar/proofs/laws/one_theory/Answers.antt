use Rattle.pure_grammar.proofs.OuterLemmas.{one_theory}
use Rattle.pure_grammar.proofs.laws.one_theory.Goals as goal

pub returns : goal.returns
returns c = one_theory
