use Rattle.pure_session_meaning.proofs.PromiseLaws.{promises_before_forks}
use Rattle.pure_session_meaning.proofs.laws.promises_before_forks.Goals as goal

pub returns : goal.returns
returns c = promises_before_forks
