use Rattle.pure_session_laws.proofs.LimitLaws.{loaded-within_limits}
use Rattle.pure_session_laws.proofs.laws.loaded_within_limits.Goals as goal

pub returns : goal.returns
returns c = loaded-within_limits
