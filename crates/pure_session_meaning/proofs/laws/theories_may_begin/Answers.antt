use Rattle.pure_session_meaning.proofs.OwnerLaws.{theories_may_begin}
use Rattle.pure_session_meaning.proofs.laws.theories_may_begin.Goals as goal

pub returns : goal.returns
returns c = theories_may_begin
