use Rattle.pure_session_meaning.proofs.CloseLaws.{theory_closes as law}
use Rattle.pure_session_meaning.proofs.laws.theory_closes.Goals as goal

pub returns : goal.returns
returns c = law
