use Rattle.pure_grammar.proofs.RawTextLemmas.{type_is_written}
use Rattle.pure_grammar.proofs.laws.type_is_written.Goals as goal

pub returns : goal.returns
returns c = type_is_written
