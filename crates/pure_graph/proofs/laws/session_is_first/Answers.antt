use Rattle.pure_graph.proofs.FirstLemmas.{session_is_first}
use Rattle.pure_graph.proofs.laws.session_is_first.Goals as goal

pub returns : goal.returns
returns c = session_is_first
