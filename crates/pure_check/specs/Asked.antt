-- What the words ask for.
use Rattle.std.specs.Prelude.{◌≡◌, ℕ, Bool, true, List, Option}
use Rattle.pure_io.specs.declared.library.File as library
use Rattle.pure_words.specs.declared.job.Job.{Job}
use Rattle.pure_words.specs.Words.{IsJob}
use Rattle.pure_check_work.specs.Declare.Notes.{Fork}
use Rattle.pure_check_work.specs.Method.declared.outcome.Outcome.{Outcome}
use Rattle.pure_check_work.specs.TheoryRun.Checked.{Checked}
use Rattle.pure_check_work.specs.TheoryRun.Outline.{Outline}
use Rattle.pure_board.specs.Boards.{Ending}
use Rattle.pure_check.specs.JobAnswers.{is_looking_job, IsAnswer}

-- Some job is asked for.
abbrev pub IsTaken : List (List ℕ) → Type 0
IsTaken words = (job : Job) × IsJob words job

-- Some job is asked for that has the library looked at.
pub record IsLooking (words : List (List ℕ)) : Type 0 where
  pub job : Job
  pub is_job : IsJob words job
  pub looks : is_looking_job job ≡ true

-- The words are a job, which by the files that the library tells hands out this board or none, and has this text written, which is clean or isn't.
pub record IsMeantBy (words : List (List ℕ)) (told : Option (List library.File)) (run : Option (Ending Checked Fork Outline Outcome)) (text : List ℕ) (clean : Bool) : Type 0 where
  pub job : Job
  pub is_job : IsJob words job
  pub answer : IsAnswer job told run text clean
