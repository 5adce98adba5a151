use Rattle.pure_session_meaning.proofs.StatementLaws.{statements_bind_forks}
use Rattle.pure_session_meaning.proofs.laws.statements_bind_forks.Goals as goal

pub returns : goal.returns
returns c = statements_bind_forks
