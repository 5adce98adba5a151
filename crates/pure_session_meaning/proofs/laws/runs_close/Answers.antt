use Rattle.pure_session_meaning.proofs.EndLaws.{runs_close}
use Rattle.pure_session_meaning.proofs.laws.runs_close.Goals as goal

pub returns : goal.returns
returns c = runs_close
