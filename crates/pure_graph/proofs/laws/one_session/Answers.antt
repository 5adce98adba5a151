use Rattle.pure_graph.proofs.LawsLemmas.{one_session}
use Rattle.pure_graph.proofs.laws.one_session.Goals as goal

pub returns : goal.returns
returns c = one_session
