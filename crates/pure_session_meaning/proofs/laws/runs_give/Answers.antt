use Rattle.pure_session_meaning.proofs.OwnLaws.{runs_give}
use Rattle.pure_session_meaning.proofs.laws.runs_give.Goals as goal

pub returns : goal.returns
returns c = runs_give
