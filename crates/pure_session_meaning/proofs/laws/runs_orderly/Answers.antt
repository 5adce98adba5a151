use Rattle.pure_session_meaning.proofs.OrderlyLaws.{runs_orderly}
use Rattle.pure_session_meaning.proofs.laws.runs_orderly.Goals as goal

pub returns : goal.returns
returns c = runs_orderly
