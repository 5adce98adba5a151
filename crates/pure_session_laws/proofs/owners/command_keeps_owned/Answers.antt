use Rattle.pure_session_laws.proofs.EndLaws.{command-keeps_owned, command-keeps_session}
use Rattle.pure_session_laws.proofs.owners.command_keeps_owned.Goals as goal

pub returns-clause-owned : goal.returns-clause-owned
returns-clause-owned c = command-keeps_owned

pub returns-clause-session : goal.returns-clause-session
returns-clause-session c = command-keeps_session
