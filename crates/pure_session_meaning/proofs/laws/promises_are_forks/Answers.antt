use Rattle.pure_session_meaning.proofs.PromiseLaws.{promises_are_forks}
use Rattle.pure_session_meaning.proofs.laws.promises_are_forks.Goals as goal

pub returns : goal.returns
returns c = promises_are_forks
