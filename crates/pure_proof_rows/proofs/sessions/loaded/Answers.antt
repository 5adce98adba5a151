use Rattle.pure_proof_rows.proofs.SessionLaws.{loaded_session}
use Rattle.pure_proof_rows.proofs.sessions.loaded.Goals as goal

pub checking-requires : goal.checking-requires
checking-requires g c = loaded_session _ _ _ _ _ c.in-Ok.ensures.told c.in-Ok.ensures.named c.are_session_texts.ensures
