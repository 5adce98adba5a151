use Rattle.pure_session_meaning.proofs.StatementLaws.{fork_once}
use Rattle.pure_session_meaning.proofs.laws.fork_once.Goals as goal

pub returns : goal.returns
returns c = fork_once
