-- Places: the theories of the library are checked without cancellations, and each row of the table is written behind the place at which its command stands; then comes the last line.
use Rattle.std.specs.Prelude.{◌≡◌, ◌≤◌, ℕ, Bool, List, ◌++◌, map, Option, Some}
use Rattle.std.specs.List.{list_all}
use Rattle.pure_text.specs.Lists.{Each, EachTwo}
use Rattle.pure_grammar.specs.declared.token.Token.{Token}
use Rattle.pure_grammar.specs.Theories.Phrase.{FilePhrase}
use Rattle.pure_grammar.specs.Theories.PhraseTree.{file_tree}
use Rattle.pure_io.specs.declared.library.File as library
use Rattle.pure_graph.specs.Order.{Loaded}
use Rattle.pure_graph.specs.Session.{Session, shown}
use Rattle.pure_print.specs.declared.row.Row.{Row}
use Rattle.pure_print.specs.RowText.{total_line}
use Rattle.pure_check_work.specs.Declare.Notes.{Fork}
use Rattle.pure_check_work.specs.Method.declared.outcome.Outcome.{Outcome}
use Rattle.pure_check_work.specs.Table.Table.{Table, table_rows}
use Rattle.pure_check_work.specs.TheoryRun.Checked.{Checked}
use Rattle.pure_check_work.specs.TheoryRun.Outline.{Outline}
use Rattle.pure_board.specs.Boards.{Ending}
use Rattle.pure_places.specs.Seen.{IsReadAs}
use Rattle.pure_row_places.specs.Lines.{Theory, Refusal, all_lines}
use Rattle.pure_row_places.specs.Scans.{IsScanOf}
use Rattle.pure_row_places.specs.Headers.{IsLookedAt}
use Rattle.pure_check.specs.JobMeaning.{JobMeaning}
use Rattle.pure_check.specs.Meaning.{IsCheckedSession, asked_for, is_good}
use Rattle.pure_check.specs.Sources.{OfLibrary}

-- the rows, each behind its place in these theories and refused files, and the last line
abbrev pub places_text : List Theory → List Refusal → (files : ℕ) → List Row → List ℕ
places_text theories refused files rows = all_lines theories refused rows ++ total_line files rows

-- A loaded theory is a text of the grammar, whose phrase means its tree.
pub record IsRead (l : Loaded) : Type 0 where
  pub tokens : List Token
  pub file : FilePhrase
  pub read : IsReadAs l.source tokens file
  pub means : file_tree file ≡ l.text

-- It is the loaded theory, with the places of its parts.
abbrev pub IsScan : Loaded → Theory → Type 0
IsScan l t = IsScanOf l.name l.source t

-- The text of the table of a session of these files, with the places of its rows, which was checked on the board that is handed out; it is clean where each row is declared or proved.
pub record IsPlacesAnswer (workers : ℕ) (files : Option (List library.File)) (run : Option (Ending Checked Fork Outline Outcome)) (text : List ℕ) (clean : Bool) : Type 0 where
  pub session : Session
  pub table : Table
  pub board : Ending Checked Fork Outline Outcome
  pub is_run : run ≡ Some board
  pub checked : IsCheckedSession files (asked_for workers) board session table
  pub are_read : Each IsRead session.theories
  pub theories : List Theory
  pub are_scanned : EachTwo IsScan session.theories theories
  pub refused : List Refusal
  pub are_looked_at : EachTwo (IsLookedAt files) (map shown session.refused) refused
  pub text_is : text ≡ places_text theories refused session.files (table_rows session table)
  pub clean_is : list_all is_good (table_rows session table) ≡ clean

-- There is one worker at least.
abbrev pub meaning : (workers : ℕ) → JobMeaning
meaning workers = record {
  IsInRange = 1 ≤ workers;
  source = OfLibrary;
  IsAnswer = IsPlacesAnswer workers;
}
