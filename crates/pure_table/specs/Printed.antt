-- What the rows of a table are made of, and that they are, or the text is, the table of a session.
use Rattle.std.specs.Prelude.{◌≡◌, ◌++◌, ℕ, List, length, map}
use Rattle.std.specs.List.{flat_map}
use Rattle.pure_definitions.specs.Names.{Label}
use Rattle.pure_graph.specs.Session.{Session, Shown, shown}
use Rattle.pure_print.specs.declared.row.Row.{Row}
use Rattle.pure_promise.specs.Entries.{LemmaEntry}
use Rattle.pure_theory_run.specs.SessionMeaning.Verdicts.{Verdict}
use Rattle.pure_theory_run.specs.SessionMeaning.Statements.{notes_of, AreVerdicts}
use Rattle.pure_theory_run.specs.Outline.{Outline, outline}
use Rattle.pure_table.specs.Table.{Table, AreEntriesOf, IsTable, table_rows}

-- what the rows of a table are made of: the texts of names, what the theories left, the entries of the lemmas, and the refused files with their reasons
pub record Parts : Type 0 where
  pub texts : List (List ℕ)
  pub values : List Outline
  pub entries : List LemmaEntry
  pub refused : List Shown

-- They are those of the session, where the lemmas with these labels are cancelled.
pub record ArePartsOf (S : Session) (cancelled : List Label) (p : Parts) : Type 0 where
  pub texts : S.names ≡ p.texts
  pub verdicts : List Verdict
  pub are : AreVerdicts S.names S.theories verdicts
  pub all : length verdicts ≡ length S.theories
  pub values : p.values ≡ map outline verdicts
  pub entries : AreEntriesOf S.names cancelled (flat_map notes_of verdicts) p.entries
  pub refused : p.refused ≡ map shown S.refused

-- They are the rows of the table to which the session comes, with these entries of its lemmas.
abbrev pub AreTableRows : Session → (cancelled : List Label) → List LemmaEntry → List Row → Type 0
AreTableRows S cancelled entries rows = (t : Table) × IsTable S cancelled t × (t.entries ≡ entries) × (rows ≡ table_rows S t)

-- Between two states of what takes rows, those of the table to which the session comes, with these entries of its lemmas, are taken behind the others.
abbrev pub TakesTableRows : (old new : List Row → Type 0) → Session → (cancelled : List Label) → List LemmaEntry → Type 0
TakesTableRows old new S cancelled entries = (t : Table) × IsTable S cancelled t × (t.entries ≡ entries) × ((rows : List Row) → old rows → new (rows ++ table_rows S t))
