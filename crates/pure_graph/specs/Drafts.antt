-- Files on the way from what was read of them to what they say by themselves.
use Rattle.std.specs.Prelude.{◌≡◌, ℕ, ◌+◌, ◌<◌, List, [], ◌∷◌, ◌++◌, Option, nat_lt, length, map, IfSome}
use Rattle.pure_io.specs.declared.library.File as library
use Rattle.pure_io.specs.Outside.{text_named}
use Rattle.pure_graph.specs.Limits.{most_files}
use Rattle.pure_graph.specs.Listing.{file_name}
use Rattle.pure_graph.specs.Reading.{Answer, File, AreReadFrom, AreRead}
use Rattle.pure_graph.specs.Seen.{seen_outcome, seen_files}
use Rattle.pure_graph.specs.Session.{answer_in}
use Rattle.pure_graph.specs.Told.{IsHeld, IsTriedOf}
use Rattle.pure_graph.specs.declared.drafts.Known.{Known}
use Rattle.pure_graph.specs.declared.drafts.Known.TheVariants.{Read, Said, Taken}
use Rattle.pure_graph.specs.declared.drafts.Draft.{Draft}
use Rattle.pure_graph.specs.declared.files.ReadFiles.{ReadFiles}

-- This is known of the file of a theory at this place: of one among the first, its bytes as the library tells them; or what it says; or nothing.
abbrev pub IsKnownOf : (told : Option (List library.File)) → (place : ℕ) → (theory : List ℕ) → Known → Type 0
IsKnownOf told place theory (Read bytes) = (place < most_files) × IfSome told (λ files. IsHeld (text_named (file_name theory) files) bytes)
IsKnownOf told place theory (Said outcome) = IsTriedOf told (nat_lt place most_files) theory (seen_outcome outcome)
IsKnownOf told place theory Taken = Unit {0}

-- these are drafts of the theories' files, the first at this place
abbrev pub AreDraftsFrom : (told : Option (List library.File)) → (place : ℕ) → List (List ℕ) → List Draft → Type 0
AreDraftsFrom told place [] [] = Unit {0}
AreDraftsFrom told place (theory ∷ theories) (draft ∷ drafts) = (draft.theory ≡ theory) × IsKnownOf told place theory draft.known × AreDraftsFrom told (place + 1) theories drafts
AreDraftsFrom told place _ _ = ⊥

-- It is a draft of the same file, by whichever library and wherever it stands.
pub record IsSaidOf (old new : Draft) : Type 0 where
  pub theory : new.theory ≡ old.theory
  pub known : (told : Option (List library.File)) (place : ℕ) → IsKnownOf told place old.theory old.known → IsKnownOf told place old.theory new.known

-- These are the files of the theories, which have so many parts: with whatever is read behind them they are read.
pub record IsReadSoFar (told : Option (List library.File)) (theories : List (List ℕ)) (files : List File) (before : ℕ) : Type 0 where
  pub answers : List Answer
  pub of_theories : map (λ (a : Answer). a.theory) answers ≡ theories
  pub tells : IfSome told (λ library_files. answers ≡ map (answer_in library_files) theories)
  pub on : (more : List Answer) (others : List File) → AreReadFrom (length files) before more others → AreRead (answers ++ more) (files ++ others)

-- these are the files of the theories, with the number of their parts
abbrev pub IsReadTo : (told : Option (List library.File)) → (theories : List (List ℕ)) → ReadFiles → Type 0
IsReadTo told theories read = IsReadSoFar told theories (seen_files read.files.items) read.parts

-- behind the files of whatever theories stand those of the drafts
abbrev pub AreReadBehind : ReadFiles → List Draft → ReadFiles → Type 0
AreReadBehind old drafts new =
    (told : Option (List library.File)) (done theories : List (List ℕ)) → IsReadTo told done old → AreDraftsFrom told (length done) theories drafts → IsReadTo told (done ++ theories) new

-- behind the files of whatever theories stand those of these, where the first of these has this place
abbrev pub IsReadOn : (told : Option (List library.File)) → (place : ℕ) → (theories : List (List ℕ)) → ReadFiles → ReadFiles → Type 0
IsReadOn told place theories old new = (done : List (List ℕ)) → length done ≡ place → IsReadTo told done old → IsReadTo told (done ++ theories) new
