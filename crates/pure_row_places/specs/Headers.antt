-- The headers of refused files, where their reasons speak of them.
use Rattle.std.specs.Prelude.{◌≡◌, ℕ, Bool, true, false, ◌||◌, List, Option, Some, None, IfSome}
use Rattle.pure_grammar.specs.Theories.Lexeme.{same}
use Rattle.pure_io.specs.declared.library.File as library
use Rattle.pure_io.specs.Outside.{text_named}
use Rattle.pure_graph.specs.Listing.{file_name}
use Rattle.pure_graph.specs.Told.{IsHeld}
use Rattle.pure_graph.specs.Session.{Shown, no_file_text, header_name_text, cyclic_imports_text, parent_refused_text}
use Rattle.pure_session.specs.Refused.{seen_refused}
use Rattle.pure_session.specs.declared.reason.RefusedFile.{RefusedFile}
use Rattle.pure_row_places.specs.Reasons.{begins}
use Rattle.pure_row_places.specs.Lines.{Theory, Refusal}
use Rattle.pure_row_places.specs.Scans.{IsScanOf, seen_refusal}
use Rattle.pure_row_places.specs.declared.scan.RefusedScan.{RefusedScan}

-- the reason names an import
abbrev pub names_import : (reason : List ℕ) → Bool
names_import reason = begins no_file_text reason || begins parent_refused_text reason

-- the reason speaks of the file's header: of its name, or of an import
abbrev pub speaks_of_header : (reason : List ℕ) → Bool
speaks_of_header reason = same reason header_name_text || (same reason cyclic_imports_text || names_import reason)

-- The theory is that of the file of this name, of whose text no more is read than a file may have; or there is no such file. A library that tells no files may have any.
abbrev pub IsTheoryOf : (told : Option (List library.File)) → (name : List ℕ) → Option Theory → Type 0
IsTheoryOf told name None = IfSome told (λ files. text_named (file_name name) files ≡ None)
IsTheoryOf told name (Some t) = IsScanOf name t.source t × IfSome told (λ files. IsHeld (text_named (file_name name) files) (Some t.source))

-- A file that is refused is looked at where its reason speaks of its header.
pub record IsLookedAt (told : Option (List library.File)) (file : Shown) (r : Refusal) : Type 0 where
  pub name_is : r.name ≡ file.name
  pub header : speaks_of_header file.text ≡ true → IsTheoryOf told file.name r.theory
  pub other : speaks_of_header file.text ≡ false → r.theory ≡ None

-- the same of the files as the program holds them
abbrev pub IsLookedAtAs : (told : Option (List library.File)) → RefusedFile → RefusedScan → Type 0
IsLookedAtAs told file r = IsLookedAt told (seen_refused file) (seen_refusal r)
