use Rattle.std.proofs.Common.{refl}
use Rattle.pure_check.specs.Formed.{IsSeenSession}
use Rattle.pure_check.proofs.AnswerLemmas.{told_session, loaded_session, session_of}
use Rattle.pure_check.proofs.JobLemmas.{graph-done}
use Rattle.pure_check.proofs.graphed.check_graph.Goals as goal

pub graph_answer-requires-clause-loaded : goal.graph_answer-requires-clause-loaded
graph_answer-requires-clause-loaded g c κs within = loaded_session _ _ _ _ _ c.in-Ok.ensures.told c.in-Ok.ensures.named c.are_session_texts.ensures

pub returns-in-Ok-clause-ok : goal.returns-in-Ok-clause-ok
returns-in-Ok-clause-ok g c =
    let of = c.in-Ok.ensures.told in
    let S = session_of c.in-Ok.session.names of in
    graph-done (g.L.Library.files c.args.library.now) S (told_session _ _ _ _ c.in-Ok.session.names of c.in-Ok.ensures.named) (loaded_session _ _ _ _ _ of c.in-Ok.ensures.named c.are_session_texts.ensures) c.args.workers
    (λ R. IsSeenSession R c.in-Ok.session) (record { names = refl; theories = refl; refused = of.texts; files = refl }) c.graph_answer.result c.graph_answer.ensures.ok
