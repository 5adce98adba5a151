use Rattle.pure_session_laws.proofs.BeginLaws.{parents-may_begin}
use Rattle.pure_session_laws.proofs.owners.parents_may_begin.Goals as goal

pub returns : goal.returns
returns c = parents-may_begin
