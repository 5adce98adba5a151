-- Reading the first bytes of a file, and what the errors of the system mean.
use Rattle.std.specs.Prelude.{◌≡◌, ℕ, ◌≤◌, List, length, Option, Some, None, Result, Ok, Err, MatchResult, MatchOption, IsSomeAnd}
use Rattle.std.specs.Fs.{dir_entry_name}
use Rattle.std.specs.Io.KnownBytes.{Consumes}
use Rattle.std.specs.IoError.{error_kind}
use Rattle.std.specs.declared.fs.DirEntry.{DirEntry}
use Rattle.std.specs.declared.io.Error.{Error}
use Rattle.std.specs.declared.io.ErrorKind.{ErrorKind}
use Rattle.std.specs.declared.io.ErrorKind.TheVariants.{NotFound, OutOfMemory, InvalidFilename}
use Rattle.pure_io.specs.declared.library.LibFault.{LibFault}
use Rattle.pure_io.specs.declared.library.LibFault.TheVariants as listing
use Rattle.pure_io.specs.declared.library.ReadFault.{ReadFault}
use Rattle.pure_io.specs.declared.library.ReadFault.TheVariants as reading

-- at most so many bytes were taken off the front of those that were left, where these are known
abbrev pub ConsumesAtMost : Option (List ℕ) → Option (List ℕ) → ℕ → Type 0
ConsumesAtMost old new most = (bytes : List ℕ) × (length bytes ≤ most) × Consumes old new bytes

-- a file that isn't found is missing, want of memory is told as such, and all else is a fault
abbrev pub read_fault_of : ErrorKind → ReadFault
read_fault_of NotFound = reading.Missing
read_fault_of OutOfMemory = reading.Memory
read_fault_of _ = reading.Failed

-- want of memory is told as such, and all else is a fault
abbrev pub list_fault_of : ErrorKind → LibFault
list_fault_of OutOfMemory = listing.Memory
list_fault_of _ = listing.Failed

-- an entry whose name isn't UTF-8 has no name here; all else is told as for the listing
abbrev pub unnamed_entry_of : ErrorKind → Result (Option (List ℕ)) LibFault
unnamed_entry_of InvalidFilename = Ok None
unnamed_entry_of kind = Err (list_fault_of kind)

-- what the system says of an entry gives this: the entry's name, or want of memory for it; and of an error what that says
abbrev pub NamesEntry : {R A F D : Type 0} → Result (DirEntry R A F D) Error → Result (Option (List ℕ)) LibFault → Type 0
NamesEntry (Ok entry) answer = MatchResult answer (λ name. name ≡ Some (dir_entry_name entry)) (λ fault. fault ≡ listing.Memory)
NamesEntry (Err error) answer = answer ≡ unnamed_entry_of (error_kind error)

-- what the system's next answer on a directory gives: nothing at the end, and else an entry, also where the answer is an error
abbrev pub NamesNext : {R A F D : Type 0} → Option (Result (DirEntry R A F D) Error) → Option (Result (Option (List ℕ)) LibFault) → Type 0
NamesNext next answer = MatchOption next (answer ≡ None) (λ entry. IsSomeAnd answer (λ name. NamesEntry entry name))

-- the steps of a listing by names, by those of the listing that the system gives
abbrev pub names_steps : {R A F D S : Type 0} → (S → Option (Result (DirEntry R A F D) Error) → S → Type 0) → S → Option (Result (Option (List ℕ)) LibFault) → S → Type 0
names_steps {R} {A} {F} {D} steps old answer new = (next : Option (Result (DirEntry R A F D) Error)) × steps old next new × NamesNext next answer
