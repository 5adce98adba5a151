use Rattle.pure_grammar.proofs.Slices.{tokens_are_slices}
use Rattle.pure_grammar.proofs.laws.tokens_are_slices.Goals as goal

pub returns : goal.returns
returns c = tokens_are_slices
