use Rattle.std.proofs.Common.{refl}
use Rattle.pure_check.specs.Formed.{IsSeenSession}
use Rattle.pure_check.proofs.AnswerLemmas.{at-session, tabled, told_session, loaded_session, session_of}
use Rattle.pure_check.proofs.tables.table_answer.Goals as goal

pub session_answer-requires-clause-loaded : goal.session_answer-requires-clause-loaded
session_answer-requires-clause-loaded g c κs within = loaded_session _ _ _ _ _ c.in-Ok.ensures.told c.in-Ok.ensures.named c.are_session_texts.ensures

pub returns-in-Ok-clause-ok : goal.returns-in-Ok-clause-ok
returns-in-Ok-clause-ok g c =
    let of = c.in-Ok.ensures.told in
    let S = session_of c.in-Ok.session.names of in
    tabled _ S (told_session _ _ _ _ c.in-Ok.session.names of c.in-Ok.ensures.named) (loaded_session _ _ _ _ _ of c.in-Ok.ensures.named c.are_session_texts.ensures) _ _ _
    (at-session S (λ R. IsSeenSession R c.in-Ok.session) (record { names = refl; theories = refl; refused = of.texts; files = refl }) _ _ _ c.session_answer.ensures.ok)

pub returns-in-Ok-clause-read_fault : goal.returns-in-Ok-clause-read_fault
returns-in-Ok-clause-read_fault g c is = absurd (c.session_answer.ensures.fault is)
