use Rattle.pure_session_meaning.proofs.ForkLaws.{forks_stand}
use Rattle.pure_session_meaning.proofs.laws.forks_stand.Goals as goal

pub returns : goal.returns
returns c = forks_stand
