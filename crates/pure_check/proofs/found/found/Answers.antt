use Rattle.pure_check.proofs.AnswerLemmas.{told_session, loaded_session, session_of}
use Rattle.pure_check.proofs.FindLemmas.{found-done}
use Rattle.pure_check.proofs.found.found.Goals as goal

pub session_found-requires : goal.session_found-requires
session_found-requires g c = loaded_session _ _ _ _ _ c.in-Ok.ensures.told c.in-Ok.ensures.named c.are_session_texts.ensures

pub returns-in-Ok-clause-ok : goal.returns-in-Ok-clause-ok
returns-in-Ok-clause-ok g c =
    let of = c.in-Ok.ensures.told in
    let texts = c.in-Ok.session.names in
    found-done _ (session_of texts of) (told_session _ _ _ _ texts of c.in-Ok.ensures.named) (loaded_session _ _ _ _ _ of c.in-Ok.ensures.named c.are_session_texts.ensures)
    c.args.name.now _ c.session_found.ensures.ok

pub returns-in-Ok-clause-read_fault : goal.returns-in-Ok-clause-read_fault
returns-in-Ok-clause-read_fault g c is = absurd (c.session_found.ensures.fault is)
