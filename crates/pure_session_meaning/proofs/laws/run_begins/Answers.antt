use Rattle.pure_session_meaning.proofs.StepLaws.{run_begins}
use Rattle.pure_session_meaning.proofs.laws.run_begins.Goals as goal

pub returns : goal.returns
returns c = run_begins
