-- Laws that a session comes to a table.
use Rattle.std.specs.Prelude.{ℕ, List}
use Rattle.pure_text.specs.Lists.{IsIn}
use Rattle.pure_definitions.specs.Names.{Label}
use Rattle.pure_graph.specs.Order.{Loaded}
use Rattle.pure_graph.specs.Session.{Session}
use Rattle.pure_promise_fates.specs.Entries as fates
use Rattle.pure_promise_fates.specs.Entries.{AreEntries, Fate, IsFate}
use Rattle.pure_theory_run.specs.Declare.Notes.{Fork}
use Rattle.pure_theory_run.specs.Method.Proof.{ProofOutcome, IsProofIn}
use Rattle.pure_theory_run.specs.SessionLaws.Loaded.{IsLoadedSession}
use Rattle.pure_theory_run.specs.SessionMeaning.Laws.{IsSomeFork}
use Rattle.pure_table.specs.Table.{Table, IsTable}

-- Something comes of the proof of each lemma that is bound.
abbrev pub ProofsHaveValues : Type 0
ProofsHaveValues = (texts : List (List ℕ)) (theories : List Loaded) → IsLoadedSession texts theories → (f : Fork) → IsSomeFork texts theories f
    → (outcome : ProofOutcome) × IsProofIn texts f.content f.lemma f.fixed f.script outcome

-- Each lemma has a fate, where their labels ascend and proofs rest on earlier ones alone.
abbrev pub FatesAreThere : Type 0
FatesAreThere = (es : List fates.Entry) → AreEntries es → (e : fates.Entry) → IsIn e es → (fate : Fate) × IsFate es e.label fate

-- A session comes to some table, whichever lemmas are cancelled.
abbrev pub TableIsThere : Type 0
TableIsThere = (S : Session) → IsLoadedSession S.names S.theories → (cancelled : List Label) → (t : Table) × IsTable S cancelled t
