use Rattle.pure_grammar.proofs.VersionLemmas.{read_as_first}
use Rattle.pure_grammar.proofs.laws.read_as_first.Goals as goal

pub returns : goal.returns
returns c = read_as_first
