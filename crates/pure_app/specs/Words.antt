-- The words that the program was called with.
use Rattle.std.specs.Prelude.{ℕ, List, map, drop, string_bytes}
use Rattle.std.specs.Vec.Iter.{into_iter_items}
use Rattle.std.specs.declared.io.ErrorKind.{ErrorKind}
use Rattle.std.specs.declared.io.ErrorKind.TheVariants.{OutOfMemory}
use Rattle.std.specs.declared.string.String.{String}
use Rattle.std.specs.declared.vec.IntoIter.{IntoIter}
use Rattle.pure_check.specs.declared.status.Status.{Status}
use Rattle.pure_check.specs.declared.status.Status.TheVariants.{Usage, Memory}

-- all arguments but the first, which is the program's name
abbrev pub words_given : {A B : Type 0} → IntoIter (String A) B → List (List ℕ)
words_given args = map string_bytes (drop 1 (into_iter_items args))

-- the status where the system didn't give the arguments: want of memory is told as such, and all else is wrong usage
abbrev pub unread_status : ErrorKind → Status
unread_status OutOfMemory = Memory
unread_status _ = Usage
