use Rattle.pure_declare.proofs.PartLaws.{parts_in_session}
use Rattle.pure_declare.proofs.laws.parts_in_session.Goals as goal

pub returns : goal.returns
returns c = parts_in_session
