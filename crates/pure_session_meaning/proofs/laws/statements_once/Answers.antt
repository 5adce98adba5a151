use Rattle.pure_session_meaning.proofs.StatementLaws.{statements_once}
use Rattle.pure_session_meaning.proofs.laws.statements_once.Goals as goal

pub returns : goal.returns
returns c = statements_once
