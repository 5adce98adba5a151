-- What the program writes, whatever board is handed out.
use Rattle.std.specs.Prelude.{ℕ, List, Option}
use Rattle.pure_io.specs.declared.library.File as library
use Rattle.pure_check.specs.Declare.Notes.{Fork}
use Rattle.pure_check.specs.Method.declared.outcome.Outcome.{Outcome}
use Rattle.pure_check.specs.TheoryRun.Checked.{Checked}
use Rattle.pure_check.specs.TheoryRun.Outline.{Outline}
use Rattle.pure_board.specs.Boards.{Ending}
use Rattle.pure_check.specs.Answer.{WroteAnswer}
use Rattle.pure_check.specs.Asked.{IsMeantBy}
use Rattle.pure_check.specs.declared.status.Status.{Status}

-- With this status was written what the words and the files mean, or a part of it, or nothing, as the top call says, with some board or none.
abbrev pub IsWritten : Status → (told : Option (List library.File)) → (words : List (List ℕ)) → (old new : Option (List ℕ)) → Type 0
IsWritten status told words old new = (run : Option (Ending Checked Fork Outline Outcome)) × WroteAnswer status (IsMeantBy words told run) old new
