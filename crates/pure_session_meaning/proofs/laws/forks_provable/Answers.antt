use Rattle.pure_session_meaning.proofs.ProvableLaws.{forks_provable}
use Rattle.pure_session_meaning.proofs.laws.forks_provable.Goals as goal

pub returns : goal.returns
returns c = forks_provable
