use Rattle.std.proofs.Common.{refl}
use Rattle.pure_check.specs.Formed.{IsSeenSession}
use Rattle.pure_check.proofs.AnswerLemmas.{told_session, loaded_session, session_of}
use Rattle.pure_check.proofs.PlacedLemmas.{places-done, placed-moved}
use Rattle.pure_check.proofs.placed.check_placed.Goals as goal

pub placed_answer-requires-clause-loaded : goal.placed_answer-requires-clause-loaded
placed_answer-requires-clause-loaded g c κs within = loaded_session _ _ _ _ _ c.in-Ok.ensures.told c.in-Ok.ensures.named c.are_session_texts.ensures

pub returns-in-Ok-clause-ok : goal.returns-in-Ok-clause-ok
returns-in-Ok-clause-ok g c =
    let of = c.in-Ok.ensures.told in
    let S = session_of c.in-Ok.session.names of in
    places-done (g.L.Library.files c.args.library.now) S (told_session _ _ _ _ c.in-Ok.session.names of c.in-Ok.ensures.named) (loaded_session _ _ _ _ _ of c.in-Ok.ensures.named c.are_session_texts.ensures) c.args.workers
    (λ R. IsSeenSession R c.in-Ok.session) (record { names = refl; theories = refl; refused = of.texts; files = refl }) c.placed_answer.result
    (placed-moved _ _ c.in-Ok.ensures.files c.args.workers c.in-Ok.session c.placed_answer.result c.placed_answer.ensures.ok)
