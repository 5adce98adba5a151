use Rattle.std.proofs.Common.{refl}
use Rattle.pure_graph.specs.Outcome.{Refused}
use Rattle.pure_graph.specs.declared.outcome.Reason.TheVariants.{TooManyFiles}
use Rattle.pure_graph.proofs.FilesLemmas.{unread-file}
use Rattle.pure_graph.proofs.files.known_at.Goals as goal

pub returns-then-place-ge-MOST_FILES-clause-told : goal.returns-then-place-ge-MOST_FILES-clause-told
returns-then-place-ge-MOST_FILES-clause-told g c =
    unread-file (g.L.Library.files c.args.library.now) c.args.theory.now c.args.place (Refused TooManyFiles) c.if-place-ge-MOST_FILES.true refl
