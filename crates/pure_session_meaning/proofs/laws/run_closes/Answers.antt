use Rattle.pure_session_meaning.proofs.StepLaws.{run_closes}
use Rattle.pure_session_meaning.proofs.laws.run_closes.Goals as goal

pub returns : goal.returns
returns c = run_closes
