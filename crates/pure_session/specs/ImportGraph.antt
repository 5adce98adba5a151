-- The files that stand as places of a graph.
use Rattle.std.specs.Prelude.{◌≡◌, ◌⊎◌, ◌↔◌, ◌<◌, ℕ, Bool, true, false, List, map}
use Rattle.std.specs.List.{filter}
use Rattle.pure_text.specs.Lists.{IsIn, Each, AnyOf}
use Rattle.pure_graph.specs.Outcome.{Outcome, Refused, Stands}
use Rattle.pure_graph.specs.Reading.{File}
use Rattle.pure_graph.specs.Graph.{HasStood, Imports, imports_of}
use Rattle.pure_session.specs.Places.{place_in, HasMark}

abbrev pub stands : Outcome → Bool
stands (Refused reason) = false
stands (Stands source text) = true

-- the files that stand
abbrev pub standing : List File → List File
standing files = filter (λ (f : File). stands f.outcome) files

abbrev pub theories : List File → List (List ℕ)
theories files = map (λ (f : File). f.theory) files

-- each import of a file is the theory of a file
abbrev pub AreLinked : List File → Type 0
AreLinked files = Each (λ (f : File). Each (λ p. IsIn p (theories files)) (imports_of f.outcome)) files

-- the row marks the places of these texts
abbrev pub MarksPlaces : (names texts : List (List ℕ)) → (row : List Bool) → Type 0
MarksPlaces names texts row = (i : ℕ) → HasMark row i ↔ AnyOf (λ text. place_in names text ≡ i) texts

-- the row of a file marks the places of its imports; those that don't stand have the place behind all others
abbrev pub IsImportRow : (names : List (List ℕ)) → File → List Bool → Type 0
IsImportRow names file row = MarksPlaces names (imports_of file.outcome) row

-- the place is on a cycle, or leads to one
abbrev pub LeadsToCycle : (marked : ℕ → ℕ → Bool) → (count place : ℕ) → Type 0
LeadsToCycle marked count place = (k : ℕ) × (k < count) × (marked k k ≡ true) × ((k ≡ place) ⊎ (marked place k ≡ true))

-- the place is that of what doesn't stand, or leads to it, or leads to a cycle
abbrev pub IsLost : (marked : ℕ → ℕ → Bool) → (count place : ℕ) → Type 0
IsLost marked count place = (place ≡ count) ⊎ ((marked place count ≡ true) ⊎ LeadsToCycle marked count place)

-- Each import of a file that stands stands too, and has a lower rank than the theory: so no theory imports itself, by
-- however many others.
pub record AreGrounded (files : List File) : Type 0 where
  pub rank : List ℕ → ℕ
  pub falls : (theory parent : List ℕ) → Imports files theory parent → rank parent < rank theory
  pub stand : (theory parent : List ℕ) → Imports files theory parent → HasStood files parent
