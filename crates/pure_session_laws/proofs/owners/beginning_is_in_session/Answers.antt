use Rattle.pure_session_laws.proofs.BeginLaws.{beginning-is_in_session, labels-are_below}
use Rattle.pure_session_laws.proofs.owners.beginning_is_in_session.Goals as goal

pub returns-clause-session : goal.returns-clause-session
returns-clause-session c = beginning-is_in_session

pub returns-clause-labels : goal.returns-clause-labels
returns-clause-labels c = labels-are_below
