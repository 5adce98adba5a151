use Rattle.pure_session_meaning.proofs.FirstLaws.{forks_as_first}
use Rattle.pure_session_meaning.proofs.laws.forks_as_first.Goals as goal

pub returns : goal.returns
returns c = forks_as_first
