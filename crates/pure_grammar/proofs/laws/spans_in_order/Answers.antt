use Rattle.pure_grammar.proofs.SpanLemmas.{spans_in_order}
use Rattle.pure_grammar.proofs.laws.spans_in_order.Goals as goal

pub returns : goal.returns
returns c = spans_in_order
