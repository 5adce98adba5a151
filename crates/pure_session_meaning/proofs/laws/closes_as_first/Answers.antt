use Rattle.pure_session_meaning.proofs.FirstLaws.{closes_as_first}
use Rattle.pure_session_meaning.proofs.laws.closes_as_first.Goals as goal

pub returns : goal.returns
returns c = closes_as_first
