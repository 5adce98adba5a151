-- What is said of a check and of a generated library in one, both of which print a table: what the words and the files mean, and what was written.
use Rattle.std.specs.Prelude.{◌≡◌, ℕ, Bool, true, false, List, [], map, Option, Some}
use Rattle.std.specs.List.{list_all}
use Rattle.pure_io.specs.declared.library.File as library
use Rattle.pure_io.specs.Outside.{Appends, AppendsProperPrefix}
use Rattle.pure_graph.specs.Session.{Session}
use Rattle.pure_gen.specs.Generated.{files_of}
use Rattle.pure_words.specs.declared.job.Job.{Job}
use Rattle.pure_words.specs.declared.job.Job.TheVariants.{Check, Generate}
use Rattle.pure_words.specs.Words.{IsJob}
use Rattle.pure_print.specs.RowText.{total_line}
use Rattle.pure_check_work.specs.Declare.Notes.{Fork}
use Rattle.pure_check_work.specs.Method.declared.outcome.Outcome.{Outcome}
use Rattle.pure_check_work.specs.SessionLaws.Loaded.{IsLoadedSession}
use Rattle.pure_check_work.specs.TheoryRun.Checked.{Checked}
use Rattle.pure_check_work.specs.TheoryRun.Outline.{Outline}
use Rattle.pure_check_work.specs.Table.Table.{Table, IsTable, IsDerivedTable, table_rows, session_text}
use Rattle.pure_board.specs.Boards.{Ending}
use Rattle.pure_policy.specs.Asked.{Asked}
use Rattle.pure_policy.specs.Heeded.{IsPolicyHeeded}
use Rattle.pure_check_work.specs.Heeded.{lot_of, gone_labels}
use Rattle.pure_check.specs.Meaning.{IsToldSession, IsRunOf, is_good}
use Rattle.pure_check.specs.declared.status.Status.{Status}
use Rattle.pure_check.specs.declared.status.Status.TheVariants.{Clean, Rows, Usage, ReadFault, WriteFault, Memory}

-- the workers of a generated library; no other job is asked for them
abbrev pub generated_workers : Job → ℕ
generated_workers (Generate workers start theories lemmas) = workers
generated_workers _ = 1

-- how a job has its theories checked; a generated library is checked without cancellations
abbrev pub asked_of : Job → Asked
asked_of (Check workers fail_fast cancels) = record { workers = workers; fail_fast = fail_fast; cancels = cancels }
asked_of job = record { workers = generated_workers job; fail_fast = false; cancels = [] }

-- The files whose theories the job checks, where they are told: those of the library, or those that are generated.
abbrev pub files_for : Job → Option (List library.File) → Option (List library.File)
files_for (Generate workers start theories lemmas) told = Some (files_of start theories lemmas)
files_for _ told = told

-- the text that the job has written of a session's table: all of it, or, of a generated library, the last line alone
abbrev pub text_for : Job → Session → Table → List ℕ
text_for (Generate workers start theories lemmas) S t = total_line S.files (table_rows S t)
text_for _ S t = session_text S t

-- What the words and the files mean: a job, the session of its files, the table that this comes to, the text to be written of it, and the board on which it was checked; the lemmas that are cancelled in it are so as the words ask, and each that is proved is derivable.
pub record IsMeant (told : Option (List library.File)) (words : List (List ℕ)) (run : Option (Ending Checked Fork Outline Outcome)) (S : Session) (t : Table) (text : List ℕ) : Type 0 where
  pub job : Job
  pub is_job : IsJob words job
  pub session : IsToldSession (files_for job told) S
  pub loaded : IsLoadedSession S.names S.theories
  pub table : IsTable S (gone_labels t.entries) t
  pub heeded : IsPolicyHeeded S.theories (asked_of job) (map lot_of t.entries)
  pub derived : IsDerivedTable t
  pub board : Ending Checked Fork Outline Outcome
  pub is_run : run ≡ Some board
  pub run_of : IsRunOf S (asked_of job) t board
  pub text_is : text ≡ text_for job S t

-- The whole of such a text was written, and every row of its table is declared or proved, or some row is neither.
pub record Printed (IsMeaning : Session → Table → List ℕ → Type 0) (clean : Bool) (old new : Option (List ℕ)) : Type 0 where
  pub session : Session
  pub table : Table
  pub text : List ℕ
  pub meaning : IsMeaning session table text
  pub clean_is : list_all is_good (table_rows session table) ≡ clean
  pub written : Appends old new text

-- A proper part of such a text was written, from its beginning.
pub record CutShort (IsMeaning : Session → Table → List ℕ → Type 0) (old new : Option (List ℕ)) : Type 0 where
  pub session : Session
  pub table : Table
  pub text : List ℕ
  pub meaning : IsMeaning session table text
  pub written : AppendsProperPrefix old new text

-- what was written, by the status
abbrev pub Wrote : Status → (Session → Table → List ℕ → Type 0) → Option (List ℕ) → Option (List ℕ) → Type 0
Wrote Clean IsMeaning old new = Printed IsMeaning true old new
Wrote Rows IsMeaning old new = Printed IsMeaning false old new
Wrote WriteFault IsMeaning old new = CutShort IsMeaning old new
Wrote Usage IsMeaning old new = new ≡ old
Wrote ReadFault IsMeaning old new = new ≡ old
Wrote Memory IsMeaning old new = new ≡ old

-- whether a board is handed out: where a table was printed, or some of it
abbrev pub has_run : Status → Bool
has_run Clean = true
has_run Rows = true
has_run WriteFault = true
has_run Usage = false
has_run ReadFault = false
has_run Memory = false

-- Some check is asked for.
abbrev pub IsCheck : List (List ℕ) → Type 0
IsCheck words = (asked : Asked) × IsJob words (Check asked.workers asked.fail_fast asked.cancels)

-- Some generated library is asked for.
pub record IsGenerate (words : List (List ℕ)) : Type 0 where
  pub workers : ℕ
  pub start : ℕ
  pub theories : ℕ
  pub lemmas : ℕ
  pub is_job : IsJob words (Generate workers start theories lemmas)
