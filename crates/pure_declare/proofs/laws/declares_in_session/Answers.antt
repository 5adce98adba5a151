use Rattle.pure_declare.proofs.PromisedLaws.{declares_in_session}
use Rattle.pure_declare.proofs.laws.declares_in_session.Goals as goal

pub returns : goal.returns
returns c = declares_in_session
