use Rattle.pure_session_meaning.proofs.OneLemmaLaws.{forks_of_one_command}
use Rattle.pure_session_meaning.proofs.laws.forks_of_one_command.Goals as goal

pub returns : goal.returns
returns c = forks_of_one_command
