-- Replaying: the library's file that this name has with `.drv` is checked as a recorded derivation, and one line says what comes of it.
use Rattle.std.specs.Prelude.{◌≡◌, ◌⊎◌, ◌≤◌, ◌<◌, ℕ, Bool, false, List, ◌++◌, length, Option, Some, None, IfSome, codes}
use Rattle.pure_io.specs.declared.library.File as library
use Rattle.pure_io.specs.Outside.{text_named}
use Rattle.pure_check_work.specs.Declare.Notes.{Fork}
use Rattle.pure_check_work.specs.Method.declared.outcome.Outcome.{Outcome}
use Rattle.pure_check_work.specs.TheoryRun.Checked.{Checked}
use Rattle.pure_check_work.specs.TheoryRun.Outline.{Outline}
use Rattle.pure_board.specs.Boards.{Ending}
use Rattle.pure_replay.specs.Said.{no_line, IsSaid}
use Rattle.pure_check.specs.JobMeaning.{JobMeaning}
use Rattle.pure_check.specs.Sources.{OfNamed}

unfoldable pub file_end : List ℕ
file_end = codes ".drv"

unfoldable pub no_file_words : List ℕ
no_file_words = codes "no file"

unfoldable pub too_large_words : List ℕ
too_large_words = codes "too large"

-- the name of the file
abbrev pub file_of : List ℕ → List ℕ
file_of name = name ++ file_end

-- the most bytes that it may have
abbrev pub most_bytes : ℕ
most_bytes = 262144

-- The line and whether it is a yes are what there is to be said of a file with these bytes, or of none: it has too many, or what the text of a record comes to.
abbrev pub IsSaidOfFile : Option (List ℕ) → (text : List ℕ) → (clean : Bool) → Type 0
IsSaidOfFile None text clean = (text ≡ no_line no_file_words) × (clean ≡ false)
IsSaidOfFile (Some bytes) text clean = ((most_bytes < length bytes) × (text ≡ no_line too_large_words) × (clean ≡ false)) ⊎ ((length bytes ≤ most_bytes) × IsSaid bytes text clean)

-- The line is that of the file that the library has under the name, where it tells its files. No board is handed out.
pub record IsReplayAnswer (name : List ℕ) (files : Option (List library.File)) (run : Option (Ending Checked Fork Outline Outcome)) (text : List ℕ) (clean : Bool) : Type 0 where
  pub bytes : Option (List ℕ)
  pub told : IfSome files (λ fs. text_named (file_of name) fs ≡ bytes)
  pub no_board : run ≡ None
  pub said : IsSaidOfFile bytes text clean

-- It has no numbers.
abbrev pub meaning : (name : List ℕ) → JobMeaning
meaning name = record {
  IsInRange = Unit {0};
  source = OfNamed (file_of name);
  IsAnswer = IsReplayAnswer name;
}
