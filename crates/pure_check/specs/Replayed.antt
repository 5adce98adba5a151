-- What is said of what was read of the file of a recorded derivation.
use Rattle.std.specs.Prelude.{ℕ, Bool, List, Some, None, Result, Ok, Err}
use Rattle.pure_io.specs.declared.library.ReadFault.{ReadFault}
use Rattle.pure_io.specs.declared.library.ReadFault.TheVariants.{Missing}
use Rattle.pure_check.specs.Jobs.Replay.{IsSaidOfFile}

-- It is what there is to be said of the bytes that were read, or of a file that is missing.
abbrev pub IsSaidOfRead : Result (List ℕ) ReadFault → (text : List ℕ) → (clean : Bool) → Type 0
IsSaidOfRead (Ok bytes) text clean = IsSaidOfFile (Some bytes) text clean
IsSaidOfRead (Err Missing) text clean = IsSaidOfFile None text clean
IsSaidOfRead (Err _) text clean = ⊥
