use Rattle.pure_graph.proofs.VersionLemmas.{loading_without_versions}
use Rattle.pure_graph.proofs.laws.loading_without_versions.Goals as goal

pub returns : goal.returns
returns c = loading_without_versions
