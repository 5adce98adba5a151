use Rattle.pure_graph.proofs.VersionLemmas.{first_without_versions}
use Rattle.pure_graph.proofs.laws.first_without_versions.Goals as goal

pub returns : goal.returns
returns c = first_without_versions
