use Rattle.pure_session_meaning.proofs.StepLaws.{run_goes_on}
use Rattle.pure_session_meaning.proofs.laws.run_goes_on.Goals as goal

pub returns : goal.returns
returns c = run_goes_on
