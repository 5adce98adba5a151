use Rattle.pure_loading_laws.proofs.SessionLaws.{session-there}
use Rattle.pure_loading_laws.proofs.laws.files_have_a_session.Goals as goal

pub returns : goal.returns
returns c = session-there
