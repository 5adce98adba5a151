-- Axioms: the theories of the library are checked without cancellations, and the rows are written of the axioms and definitions on which the lemma with this full name rests, those of the failed lemmas that it reaches, and its own.
use Rattle.std.specs.Prelude.{◌≤◌, ℕ, Bool, List}
use Rattle.pure_graph.specs.Session.{Session}
use Rattle.pure_citations.specs.Listed.{IsSaidOf}
use Rattle.pure_check_work.specs.SessionMeaning.Statements.{forks_of}
use Rattle.pure_check_work.specs.Table.Table.{Table, table_rows}
use Rattle.pure_check.specs.JobMeaning.{JobMeaning}
use Rattle.pure_check.specs.Meaning.{IsSessionAnswer, asked_for}
use Rattle.pure_check.specs.Sources.{OfLibrary}

-- The text says of the lemma with this full name on what it rests, by the session's table; or that there is none.
abbrev pub SaysAxioms : (name : List ℕ) → Session → Table → (text : List ℕ) → (clean : Bool) → Type 0
SaysAxioms name S t text clean = IsSaidOf S.names (forks_of t.notes) t.entries (table_rows S t) name text clean

-- There is one worker at least.
abbrev pub meaning : (workers : ℕ) → (name : List ℕ) → JobMeaning
meaning workers name = record {
  IsInRange = 1 ≤ workers;
  source = OfLibrary;
  IsAnswer = IsSessionAnswer (SaysAxioms name) (asked_for workers);
}
