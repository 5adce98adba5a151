use Rattle.pure_session_meaning.proofs.OnceLaws.{closes_once}
use Rattle.pure_session_meaning.proofs.laws.closes_once.Goals as goal

pub returns : goal.returns
returns c = closes_once
