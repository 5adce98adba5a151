-- Laws of tables.
use Rattle.std.specs.Prelude.{◌≡◌, ℕ, List, map}
use Rattle.pure_text.specs.Lists.{Each, EachTwo}
use Rattle.pure_definitions.specs.Names.{Label}
use Rattle.pure_graph.specs.Order.{Loaded}
use Rattle.pure_graph.specs.Session.{Session, shown}
use Rattle.pure_promise_fates.specs.Entries.{AreEntries}
use Rattle.pure_promise.specs.Entries.{LemmaEntry, plain}
use Rattle.pure_theory_run.specs.Declare.Notes.{Fork, Note}
use Rattle.pure_theory_run.specs.Method.Outcome.{IsProvable}
use Rattle.pure_theory_run.specs.SessionMeaning.Statements.{forks_of, AreStatements}
use Rattle.pure_theory_run.specs.SessionLaws.Loaded.{IsLoadedSession}
use Rattle.pure_theory_run.specs.Outline.{Outline}
use Rattle.pure_theory_run.specs.Sessions.{AreSaid}
use Rattle.pure_table.specs.Table.{Table, IsEntryOf, AreEntriesOf, IsTable, IsDerivedTable}
use Rattle.pure_table.specs.Printed.{Parts, ArePartsOf}

-- What the theories of a session left, when all were run, are its statements, with these lemmas.
abbrev pub SaidAreStatements : Type 0
SaidAreStatements = (texts : List (List ℕ)) (theories : List Loaded) (values : List Outline) (forks : List Fork) → AreSaid texts theories values forks
    → (notes : List Note) × AreStatements texts theories notes × (forks ≡ forks_of notes)

-- With the entries of these lemmas, and the files that were refused, they are the parts of its table.
abbrev pub SaidAreParts : Type 0
SaidAreParts = (S : Session) (cancelled : List Label) (p : Parts) (forks : List Fork) → S.names ≡ p.texts → AreSaid S.names S.theories p.values forks → EachTwo (IsEntryOf S.names cancelled) forks p.entries
    → p.refused ≡ map shown S.refused → ArePartsOf S cancelled p

-- A proof can be run of each lemma that the session's statements bind.
abbrev pub LemmasProvable : Type 0
LemmasProvable = (S : Session) → IsLoadedSession S.names S.theories → (notes : List Note) → AreStatements S.names S.theories notes → Each (IsProvable S.names) (forks_of notes)

-- The entries of a session's lemmas are in order, and proofs rest on earlier ones alone; so each has a fate.
abbrev pub TableHasFates : Type 0
TableHasFates = (S : Session) → IsLoadedSession S.names S.theories → (cancelled : List Label) (notes : List Note) (entries : List LemmaEntry)
    → AreStatements S.names S.theories notes → AreEntriesOf S.names cancelled notes entries → AreEntries (map plain entries)

-- What is printed as proved is derivable.
abbrev pub TableIsDerived : Type 0
TableIsDerived = (S : Session) → IsLoadedSession S.names S.theories → (cancelled : List Label) (t : Table) → IsTable S cancelled t → IsDerivedTable t

-- A session comes to one table at most.
abbrev pub TableOnce : Type 0
TableOnce = (S : Session) → IsLoadedSession S.names S.theories → (cancelled : List Label) (t u : Table) → IsTable S cancelled t → IsTable S cancelled u → t ≡ u
