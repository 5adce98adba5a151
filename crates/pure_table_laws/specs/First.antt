-- What the table of a session was while there were no haves: its statements are those of commands as they were, and facts are looked up over contents alone.
use Rattle.std.specs.Prelude.{◌≡◌, ℕ, List, Option, Some, None}
use Rattle.pure_text.specs.Lists.{IsIn, EachTwo}
use Rattle.pure_definitions.specs.Names.{Label}
use Rattle.pure_graph.specs.Session.{Session}
use Rattle.pure_table.specs.Declare.Notes.{Fork, Note}
use Rattle.pure_table.specs.Method.Proof.{ProofOutcome, IsProof}
use Rattle.pure_table.specs.Promise.Entries.{LemmaEntry}
use Rattle.pure_table.specs.Promise.Rows.{AreRowsOf}
use Rattle.pure_table.specs.SessionMeaning.Statements.{forks_of}
use Rattle.pure_table.specs.SessionMeaning.First.{AreStatements}
use Rattle.pure_table.specs.Table.{Table}

-- What became of the lemma: it is cancelled where its label is among these; else this is what its proof comes to.
abbrev pub IsOwn : (texts : List (List ℕ)) → (cancelled : List Label) → Fork → Option ProofOutcome → Type 0
IsOwn texts cancelled f None = IsIn f.label cancelled
IsOwn texts cancelled f (Some outcome) = (¬ IsIn f.label cancelled) × IsProof texts f.content f.fixed f.script outcome

-- The entry is that of the lemma.
pub record IsEntryOf (texts : List (List ℕ)) (cancelled : List Label) (f : Fork) (e : LemmaEntry) : Type 0 where
  pub label : e.label ≡ f.label
  pub name : e.name ≡ f.name
  pub prop : e.prop ≡ f.prop
  pub own : IsOwn texts cancelled f e.own

-- Each lemma that is bound has its entry, in order.
abbrev pub AreEntriesOf : (texts : List (List ℕ)) → (cancelled : List Label) → List Note → List LemmaEntry → Type 0
AreEntriesOf texts cancelled notes entries = EachTwo (IsEntryOf texts cancelled) (forks_of notes) entries

-- The session comes to this, where the lemmas with these labels are cancelled: its statements leave the notes, each lemma that is bound has its entry, and each entry its row.
pub record IsTable (S : Session) (cancelled : List Label) (t : Table) : Type 0 where
  pub statements : AreStatements S.names S.theories t.notes
  pub entries : AreEntriesOf S.names cancelled t.notes t.entries
  pub rows : AreRowsOf S.names t.entries t.lemmas
