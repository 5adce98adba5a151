use Rattle.pure_graph.proofs.FirstLemmas.{loading_is_first}
use Rattle.pure_graph.proofs.laws.loading_is_first.Goals as goal

pub returns : goal.returns
returns c = loading_is_first
