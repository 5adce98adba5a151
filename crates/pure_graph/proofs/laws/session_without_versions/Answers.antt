use Rattle.pure_graph.proofs.VersionLemmas.{session_without_versions}
use Rattle.pure_graph.proofs.laws.session_without_versions.Goals as goal

pub returns : goal.returns
returns c = session_without_versions
