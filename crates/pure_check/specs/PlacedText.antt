-- The text of a table with the places of its rows.
use Rattle.std.specs.Prelude.{◌≡◌, ℕ, Bool, List, map, Option, Some}
use Rattle.std.specs.List.{list_all}
use Rattle.pure_text.specs.Lists.{EachTwo}
use Rattle.pure_io.specs.declared.library.File as library
use Rattle.pure_graph.specs.Session.{Session, shown}
use Rattle.pure_check_work.specs.Declare.Notes.{Fork}
use Rattle.pure_check_work.specs.Method.declared.outcome.Outcome.{Outcome}
use Rattle.pure_check_work.specs.Table.Table.{Table, IsTable, table_rows}
use Rattle.pure_check_work.specs.TheoryRun.Checked.{Checked}
use Rattle.pure_check_work.specs.TheoryRun.Outline.{Outline}
use Rattle.pure_board.specs.Boards.{Ending}
use Rattle.pure_policy.specs.Heeded.{IsPolicyHeeded}
use Rattle.pure_check_work.specs.Heeded.{lot_of, gone_labels}
use Rattle.pure_row_places.specs.Lines.{Theory, Refusal}
use Rattle.pure_row_places.specs.Headers.{IsLookedAt}
use Rattle.pure_check.specs.Meaning.{IsRunOf, asked_for, is_good}
use Rattle.pure_check.specs.Jobs.Places.{places_text, IsScan}

-- The session was checked on the board that is handed out: this is its table's text, with the places of the rows in its theories and in the refused files of the library, and this says whether each row is declared or proved.
pub record IsPlacedTextOf (S : Session) (told : Option (List library.File)) (workers : ℕ) (run : Option (Ending Checked Fork Outline Outcome)) (text : List ℕ) (clean : Bool) : Type 0 where
  pub table : Table
  pub board : Ending Checked Fork Outline Outcome
  pub is_run : run ≡ Some board
  pub is_table : IsTable S (gone_labels table.entries) table
  pub heeded : IsPolicyHeeded S.theories (asked_for workers) (map lot_of table.entries)
  pub run_of : IsRunOf S (asked_for workers) table board
  pub theories : List Theory
  pub are_scanned : EachTwo IsScan S.theories theories
  pub refused : List Refusal
  pub are_looked_at : EachTwo (IsLookedAt told) (map shown S.refused) refused
  pub text_is : text ≡ places_text theories refused S.files (table_rows S table)
  pub clean_is : list_all is_good (table_rows S table) ≡ clean
