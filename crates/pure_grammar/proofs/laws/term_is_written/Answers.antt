use Rattle.pure_grammar.proofs.RawTextLemmas.{term_is_written}
use Rattle.pure_grammar.proofs.laws.term_is_written.Goals as goal

pub returns : goal.returns
returns c = term_is_written
