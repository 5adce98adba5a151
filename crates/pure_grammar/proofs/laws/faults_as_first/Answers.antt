use Rattle.pure_grammar.proofs.VersionLemmas.{faults_as_first}
use Rattle.pure_grammar.proofs.laws.faults_as_first.Goals as goal

pub returns : goal.returns
returns c = faults_as_first
