-- Of which files a job speaks.
use Rattle.std.specs.Prelude.{ℕ, Bool, true, false, List, [], Option, Some, filter, option_map}
use Rattle.pure_grammar.specs.Theories.Lexeme.{same}
use Rattle.pure_io.specs.declared.library.File as library

-- of all files of the library, of those that it has under one name, of made ones, or of none
pub data Source : Type 0 where
  OfLibrary : Source
  OfNamed : (name : List ℕ) → Source
  OfMade : (files : List library.File) → Source
  OfNone : Source

-- whether the library is looked at
abbrev pub is_looking : Source → Bool
is_looking OfLibrary = true
is_looking (OfNamed name) = true
is_looking (OfMade files) = false
is_looking OfNone = false

-- the files, where they are told
abbrev pub files_in : Source → (told : Option (List library.File)) → Option (List library.File)
files_in OfLibrary told = told
files_in (OfNamed name) told = option_map (filter (λ (file : library.File). same name file.name)) told
files_in (OfMade files) told = Some files
files_in OfNone told = Some []
