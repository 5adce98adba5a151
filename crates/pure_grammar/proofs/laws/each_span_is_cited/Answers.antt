use Rattle.pure_grammar.proofs.SpanLemmas.{each_span_is_cited}
use Rattle.pure_grammar.proofs.laws.each_span_is_cited.Goals as goal

pub returns : goal.returns
returns c = each_span_is_cited
