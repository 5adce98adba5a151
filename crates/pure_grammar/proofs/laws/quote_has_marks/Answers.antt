use Rattle.pure_grammar.proofs.Slices.{quote_has_marks}
use Rattle.pure_grammar.proofs.laws.quote_has_marks.Goals as goal

pub returns : goal.returns
returns c = quote_has_marks
