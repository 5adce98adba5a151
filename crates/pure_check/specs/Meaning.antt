-- What checked files come to: the session, its table, which of its lemmas are cancelled, the text of the table, and the board on which this came about.
use Rattle.std.specs.Prelude.{◌≡◌, ℕ, Bool, true, false, List, [], map, Option, Some, IfSome}
use Rattle.std.specs.List.{list_all}
use Rattle.pure_io.specs.declared.library.File as library
use Rattle.pure_graph.specs.Listing.{AreTheories}
use Rattle.pure_graph.specs.Reading.{Answer}
use Rattle.pure_graph.specs.Session.{answer_in, Session, IsSessionOf}
use Rattle.pure_print.specs.declared.row.Row.{Row}
use Rattle.pure_print.specs.declared.row.RowStatus.{RowStatus}
use Rattle.pure_print.specs.declared.row.RowStatus.TheVariants.{Declared, Refused, Proved, Failed, Tainted, Cancelled, Unsettled}
use Rattle.pure_check_work.specs.Declare.Notes.{Fork}
use Rattle.pure_check_work.specs.Method.declared.outcome.Outcome.{Outcome}
use Rattle.pure_check_work.specs.SessionLaws.Loaded.{IsLoadedSession}
use Rattle.pure_check_work.specs.SessionMeaning.Statements.{forks_of}
use Rattle.pure_check_work.specs.TheoryRun.Checked.{Checked}
use Rattle.pure_check_work.specs.TheoryRun.Outline.{Outline}
use Rattle.pure_check_work.specs.Table.Table.{Table, IsTable, IsDerivedTable, table_rows}
use Rattle.pure_machine.specs.State.{Promise}
use Rattle.pure_core_end.specs.Promises.{AreInOrder}
use Rattle.pure_board.specs.Boards.{Ending}
use Rattle.pure_policy.specs.Asked.{Asked}
use Rattle.pure_policy.specs.Heeded.{IsPolicyHeeded}
use Rattle.pure_policy.specs.Policy.{policy_of}
use Rattle.pure_check_work.specs.Boards.{IsBoardOf}
use Rattle.pure_check_work.specs.Cancelled.{lemmas_of, entries_of}
use Rattle.pure_check_work.specs.Heeded.{lot_of, gone_labels}

-- The session of a library's files, where it tells them; of one that tells none, the session of some listed names and of some answers on their theories.
pub record IsToldSession (told : Option (List library.File)) (S : Session) : Type 0 where
  pub names : List (List ℕ)
  pub theories : List (List ℕ)
  pub tells : IfSome told (λ files. names ≡ map (λ (f : library.File). f.name) files)
  pub listed : AreTheories names theories
  pub answers : List Answer
  pub of_theories : map (λ (a : Answer). a.theory) answers ≡ theories
  pub tells_answers : IfSome told (λ files. answers ≡ map (answer_in files) theories)
  pub session : IsSessionOf answers S

-- The board on which the session was checked as was asked: it was opened with the policy that the words mean for the session's theories, and with as many workers; its promises, in load order, are of the lemmas that the session binds; and the table's entries are theirs.
pub record IsRunOf (S : Session) (asked : Asked) (t : Table) (board : Ending Checked Fork Outline Outcome) : Type 0 where
  pub is_board : IsBoardOf S.names S.theories (policy_of S.theories asked) asked.workers board
  pub ordered : List (Promise Fork Outcome)
  pub in_order : AreInOrder board.core.promises ordered
  pub goals : lemmas_of ordered ≡ forks_of t.notes
  pub entries : t.entries ≡ entries_of ordered

-- A session of these files was checked as was asked, and this is its table: the lemmas that are cancelled in it are so as was asked, each that is proved is derivable, and this is the board on which that came about.
pub record IsCheckedSession (told : Option (List library.File)) (asked : Asked) (board : Ending Checked Fork Outline Outcome) (S : Session) (t : Table) : Type 0 where
  pub session : IsToldSession told S
  pub loaded : IsLoadedSession S.names S.theories
  pub table : IsTable S (gone_labels t.entries) t
  pub heeded : IsPolicyHeeded S.theories asked (map lot_of t.entries)
  pub derived : IsDerivedTable t
  pub run_of : IsRunOf S asked t board

-- how theories are checked without cancellations
abbrev pub asked_for : (workers : ℕ) → Asked
asked_for workers = record { workers = workers; fail_fast = false; cancels = [] }

-- whether the status is declared or proved
abbrev pub is_good_status : RowStatus → Bool
is_good_status Declared = true
is_good_status Refused = false
is_good_status Proved = true
is_good_status Failed = false
is_good_status Tainted = false
is_good_status Cancelled = false
is_good_status Unsettled = false

-- whether the row is declared or proved
abbrev pub is_good : Row → Bool
is_good row = is_good_status row.status

-- This is said of the table of a session of these files, which was checked as was asked on the board that is handed out.
pub record IsSessionAnswer (Says : Session → Table → (text : List ℕ) → (clean : Bool) → Type 0) (asked : Asked) (files : Option (List library.File)) (run : Option (Ending Checked Fork Outline Outcome)) (text : List ℕ) (clean : Bool) : Type 0 where
  pub session : Session
  pub table : Table
  pub board : Ending Checked Fork Outline Outcome
  pub is_run : run ≡ Some board
  pub checked : IsCheckedSession files asked board session table
  pub says : Says session table text clean

-- The text of the table of a session of these files, which was checked as was asked on the board that is handed out; it is clean where each row is declared or proved.
pub record IsTableAnswer (text_of : Session → Table → List ℕ) (asked : Asked) (files : Option (List library.File)) (run : Option (Ending Checked Fork Outline Outcome)) (text : List ℕ) (clean : Bool) : Type 0 where
  pub session : Session
  pub table : Table
  pub board : Ending Checked Fork Outline Outcome
  pub is_run : run ≡ Some board
  pub checked : IsCheckedSession files asked board session table
  pub text_is : text ≡ text_of session table
  pub clean_is : list_all is_good (table_rows session table) ≡ clean
