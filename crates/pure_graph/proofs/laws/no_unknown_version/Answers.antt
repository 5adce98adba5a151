use Rattle.pure_graph.proofs.FirstLemmas.{no_unknown_version}
use Rattle.pure_graph.proofs.laws.no_unknown_version.Goals as goal

pub returns : goal.returns
returns c = no_unknown_version
