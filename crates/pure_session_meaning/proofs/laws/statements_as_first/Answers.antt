use Rattle.pure_session_meaning.proofs.FirstLaws.{statements_as_first}
use Rattle.pure_session_meaning.proofs.laws.statements_as_first.Goals as goal

pub returns : goal.returns
returns c = statements_as_first
