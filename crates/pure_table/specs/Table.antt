-- The table of a session: what its statements leave, what becomes of its lemmas, and the rows that are printed.
use Rattle.std.specs.Prelude.{◌≡◌, ℕ, List, [], ◌∷◌, ◌++◌, map, take, drop, Option, Some, None}
use Rattle.pure_text.specs.Lists.{IsIn, EachTwo}
use Rattle.pure_definitions.specs.Names.{Label}
use Rattle.pure_logic.specs.Derivable.{IsDerivableAlone}
use Rattle.pure_graph.specs.Session.{Session, Shown, shown}
use Rattle.pure_print.specs.declared.row.Row.{Row}
use Rattle.pure_print.specs.declared.row.RowStatus.TheVariants.{Proved}
use Rattle.pure_print.specs.RowText.{table_text}
use Rattle.pure_theory_run.specs.Declare.Notes.{Fork, Note, Said, Forked}
use Rattle.pure_theory_run.specs.Method.Proof.{ProofOutcome, IsProofIn}
use Rattle.pure_promise.specs.Entries.{LemmaEntry}
use Rattle.pure_promise.specs.Rows.{AreRowsOf}
use Rattle.pure_theory_run.specs.SessionMeaning.Verdicts.{refused_theory}
use Rattle.pure_theory_run.specs.SessionMeaning.Statements.{forks_of, AreStatements}

-- what a session comes to: the notes of its theories, an entry for each lemma, and the lemmas' rows
pub record Table : Type 0 where
  pub notes : List Note
  pub entries : List LemmaEntry
  pub lemmas : List Row

-- What became of the lemma: it is cancelled where its label is among these; else this is what its proof comes to.
abbrev pub IsOwn : (texts : List (List ℕ)) → (cancelled : List Label) → Fork → Option ProofOutcome → Type 0
IsOwn texts cancelled f None = IsIn f.label cancelled
IsOwn texts cancelled f (Some outcome) = (¬ IsIn f.label cancelled) × IsProofIn texts f.content f.lemma f.fixed f.script outcome

-- The entry is that of the lemma.
pub record IsEntryOf (texts : List (List ℕ)) (cancelled : List Label) (f : Fork) (e : LemmaEntry) : Type 0 where
  pub label : e.label ≡ f.label
  pub name : e.name ≡ f.name
  pub prop : e.prop ≡ f.prop
  pub own : IsOwn texts cancelled f e.own

-- Each lemma that is bound has its entry, in order.
abbrev pub AreEntriesOf : (texts : List (List ℕ)) → (cancelled : List Label) → List Note → List LemmaEntry → Type 0
AreEntriesOf texts cancelled notes entries = EachTwo (IsEntryOf texts cancelled) (forks_of notes) entries

-- The session comes to this, where the lemmas with these labels are cancelled: its statements leave the notes, each lemma that is bound has its entry, and each entry its row.
pub record IsTable (S : Session) (cancelled : List Label) (t : Table) : Type 0 where
  pub statements : AreStatements S.names S.theories t.notes
  pub entries : AreEntriesOf S.names cancelled t.notes t.entries
  pub rows : AreRowsOf S.names t.entries t.lemmas

-- the rows of the notes, with those of the lemmas, in order, in their places
abbrev pub with_rows : List Note → (lemmas : List Row) → List Row
with_rows [] lemmas = []
with_rows (Said row ∷ notes) lemmas = row ∷ with_rows notes lemmas
with_rows (Forked fork ∷ notes) lemmas = take 1 lemmas ++ with_rows notes (drop 1 lemmas)

-- the row of a file that is refused in loading
abbrev pub refusal_row : Shown → Row
refusal_row file = refused_theory file.name file.text

-- the rows of the table: those of the theories in load order, then those of the files that are refused
abbrev pub table_rows : Session → Table → List Row
table_rows S t = with_rows t.notes t.lemmas ++ map refusal_row (map shown S.refused)

-- the text of the table
abbrev pub session_text : Session → Table → List ℕ
session_text S t = table_text S.files (table_rows S t)

-- The statement of each lemma whose row is printed as proved is derivable from the axioms of its content alone: those of its theory before it, and of the theory's ancestors.
abbrev pub IsDerivedTable : Table → Type 0
IsDerivedTable t = EachTwo (λ (f : Fork) (row : Row). row.status ≡ Proved → IsDerivableAlone f.content f.prop) (forks_of t.notes) t.lemmas
