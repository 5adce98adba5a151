-- Laws of sessions as works of the core.
use Rattle.std.specs.Prelude.{◌≡◌, ℕ, List, map}
use Rattle.pure_definitions.specs.Names.{Label}
use Rattle.pure_promise_fates.specs.Entries.{AreEntries}
use Rattle.pure_graph.specs.Order.{Loaded}
use Rattle.pure_graph.specs.Session.{Session, shown}
use Rattle.pure_table.specs.Declare.Notes.{Fork}
use Rattle.pure_table.specs.Method.Outcome.{IsOutcomeOf}
use Rattle.pure_table.specs.Method.declared.outcome.Outcome.{Outcome}
use Rattle.pure_table.specs.Promise.Entries.{LemmaEntry, plain}
use Rattle.pure_table.specs.SessionLaws.Loaded.{IsLoadedSession}
use Rattle.pure_table.specs.TheoryRun.Outline.{Outline}
use Rattle.pure_table.specs.Printed.{Parts, ArePartsOf}
use Rattle.pure_machine.specs.State.{Promise}
use Rattle.pure_core_end.specs.Joined.{AreJoined}
use Rattle.pure_check_work.specs.Relations.{shape_of, ForksAfter, ClosesAfter}
use Rattle.pure_check_work.specs.Cancelled.{cancelled_labels, entries_of}
use Rattle.pure_check_work.specs.Said.{AreLeft}

-- What the theories of a loaded session left as a work, and the entries of their lemmas, are what its statements leave, with the cancelled ones.
abbrev pub JoinedAreLeft : Type 0
JoinedAreLeft = (texts : List (List ℕ)) (theories : List Loaded) → IsLoadedSession texts theories → (values : List Outline) (promises : List (Promise Fork Outcome))
    → AreJoined (shape_of theories) (ForksAfter texts theories) (ClosesAfter texts theories) (IsOutcomeOf texts) values promises
    → AreLeft texts theories (cancelled_labels promises) values (entries_of promises)

-- The entries are in order, so that each lemma has a fate; and with the refused files they are the parts of the session's table.
abbrev pub TableHasPremises : Type 0
TableHasPremises = (S : Session) → IsLoadedSession S.names S.theories → (cancelled : List Label) (p : Parts) → S.names ≡ p.texts → AreLeft S.names S.theories cancelled p.values p.entries → p.refused ≡ map shown S.refused
    → AreEntries (map plain p.entries) × ArePartsOf S cancelled p
