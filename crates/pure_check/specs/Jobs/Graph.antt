-- Graph: the theories of the library are checked without cancellations, and it is drawn which lemma rests on what.
use Rattle.std.specs.Prelude.{◌≡◌, ◌≤◌, ℕ, Bool, List, map}
use Rattle.std.specs.List.{list_all}
use Rattle.pure_graph.specs.Order.{Loaded}
use Rattle.pure_graph.specs.Session.{Session}
use Rattle.pure_citations.specs.Drawn.{IsDrawing}
use Rattle.pure_check_work.specs.SessionMeaning.Statements.{forks_of}
use Rattle.pure_check_work.specs.Table.Table.{Table, table_rows}
use Rattle.pure_check.specs.JobMeaning.{JobMeaning}
use Rattle.pure_check.specs.Meaning.{IsSessionAnswer, asked_for, is_good}
use Rattle.pure_check.specs.Sources.{OfLibrary}

-- the names of the theories
abbrev pub names_of : List Loaded → List (List ℕ)
names_of = map (λ (l : Loaded). l.name)

-- The text is the graph of the session, by its table; it is clean where each row is declared or proved.
abbrev pub SaysGraph : Session → Table → (text : List ℕ) → (clean : Bool) → Type 0
SaysGraph S t text clean = IsDrawing S.names (names_of S.theories) (forks_of t.notes) t.entries (table_rows S t) text × (list_all is_good (table_rows S t) ≡ clean)

-- There is one worker at least.
abbrev pub meaning : (workers : ℕ) → JobMeaning
meaning workers = record {
  IsInRange = 1 ≤ workers;
  source = OfLibrary;
  IsAnswer = IsSessionAnswer SaysGraph (asked_for workers);
}
