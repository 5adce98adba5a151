-- What a library answered, whether or not it tells its files.
use Rattle.std.specs.Prelude.{◌≡◌, ℕ, ◌+◌, Bool, List, take, map, Option, Some, None, IfSome}
use Rattle.pure_io.specs.declared.library.File as library
use Rattle.pure_io.specs.Outside.{text_named}
use Rattle.pure_graph.specs.Limits.{most_bytes}
use Rattle.pure_graph.specs.Listing.{AreTheories, file_name}
use Rattle.pure_graph.specs.Reading.{Answer, File, IsTried, AreRead}
use Rattle.pure_graph.specs.Outcome.{Outcome}
use Rattle.pure_graph.specs.Session.{answer_in}

-- one byte more than a file may have, or all bytes of a shorter one; or there is no such file
abbrev pub IsHeld : Option (List ℕ) → Option (List ℕ) → Type 0
IsHeld told None = told ≡ None
IsHeld told (Some text) = (bytes : List ℕ) × (told ≡ Some bytes) × (text ≡ take (most_bytes + 1) bytes)

-- A library that tells its files tells these bytes of a theory's file, none where it has no such file. One that tells no
-- files may have any.
abbrev pub TellsBytes : Option (List library.File) → (theory : List ℕ) → Option (List ℕ) → Type 0
TellsBytes told theory bytes = IfSome told (λ files. bytes ≡ text_named (file_name theory) files)

-- This is what the file of a theory says, if it is read at all.
abbrev pub IsTriedOf : Option (List library.File) → (is_read : Bool) → (theory : List ℕ) → Outcome → Type 0
IsTriedOf told is_read theory outcome = (bytes : Option (List ℕ)) × TellsBytes told theory bytes × IsTried is_read (record { theory = theory; bytes = bytes }) outcome

-- These are the files of the theories, each with what it says by itself and by its place.
pub record AreReadOf (told : Option (List library.File)) (theories : List (List ℕ)) (files : List File) : Type 0 where
  pub answers : List Answer
  pub of_theories : map (λ (a : Answer). a.theory) answers ≡ theories
  pub tells : IfSome told (λ library_files. answers ≡ map (answer_in library_files) theories)
  pub are_read : AreRead answers files

-- These are the files of a library's theories.
pub record AreFilesOf (told : Option (List library.File)) (files : List File) : Type 0 where
  pub names : List (List ℕ)
  pub theories : List (List ℕ)
  pub tells : IfSome told (λ library_files. names ≡ map (λ (f : library.File). f.name) library_files)
  pub listed : AreTheories names theories
  pub read : AreReadOf told theories files
