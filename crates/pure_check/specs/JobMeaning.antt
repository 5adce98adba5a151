-- Of what the meaning of a job consists.
use Rattle.std.specs.Prelude.{ℕ, Bool, List, Option}
use Rattle.pure_io.specs.declared.library.File as library
use Rattle.pure_check_work.specs.Declare.Notes.{Fork}
use Rattle.pure_check_work.specs.Method.declared.outcome.Outcome.{Outcome}
use Rattle.pure_check_work.specs.TheoryRun.Checked.{Checked}
use Rattle.pure_check_work.specs.TheoryRun.Outline.{Outline}
use Rattle.pure_board.specs.Boards.{Ending}
use Rattle.pure_check.specs.Sources.{Source}

-- which numbers it may have; of which files it speaks; and that by these, where they are told, it hands out this board or none, and has this text written, which is clean or isn't
pub record JobMeaning : Type 1 where
  pub IsInRange : Type 0
  pub source : Source
  pub IsAnswer : (files : Option (List library.File)) → (run : Option (Ending Checked Fork Outline Outcome)) → (text : List ℕ) → (clean : Bool) → Type 0
