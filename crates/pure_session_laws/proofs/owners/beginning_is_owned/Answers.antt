use Rattle.pure_session_laws.proofs.BeginLaws.{beginning-is_owned}
use Rattle.pure_session_laws.proofs.owners.beginning_is_owned.Goals as goal

pub returns : goal.returns
returns c = beginning-is_owned
