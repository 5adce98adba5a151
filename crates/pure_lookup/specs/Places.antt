-- Where in load order a name is visible, and what a look-up finds.
use Rattle.std.specs.Prelude.{◌≡◌, ◌<◌, ◌≤◌, ℕ, List, Option, Some, None}
use Rattle.pure_text.specs.Lists.{IsIn}
use Rattle.pure_logic.specs.Content.{TheoryId, Content}
use Rattle.pure_logic.specs.Beginning.{theories_of}
use Rattle.pure_lookup.specs.Meaning.{Space, full_text, Declared, IsVisible}

-- The answer to the question which index the visible theory of this name has.
abbrev pub IsIndexOf : Content → (name : ℕ) → Option ℕ → Type 0
IsIndexOf Q name (Some index) = (t : TheoryId) × IsIn t (theories_of Q) × (t.name ≡ name) × (t.index ≡ index)
IsIndexOf Q name None = (t : TheoryId) → IsIn t (theories_of Q) → ¬ (t.name ≡ name)

-- The answer to the question at which place in load order the name is visible.
abbrev pub IsPlaceOf : (texts : List (List ℕ)) → Content → Space → ℕ → Option ℕ → Type 0
IsPlaceOf texts Q space n (Some place) = (theory base : List ℕ) × IsVisible texts Q space place theory base (Declared n)
IsPlaceOf texts Q space n None = (place : ℕ) (theory base : List ℕ) → ¬ IsVisible texts Q space place theory base (Declared n)

-- The answer to the question which theory stands in front of the text's first dot (46), if it has one.
abbrev pub IsTheoryIn : (text theory : List ℕ) → Type 0
IsTheoryIn text theory = (base : List ℕ) × (¬ IsIn 46 theory) × (text ≡ full_text theory base)

-- Of the names in the list the best so far: one that is visible with the base at this place, which is the last of the places of them all; or none, where none of them is visible with the base.
abbrev pub IsBest : (texts : List (List ℕ)) → Content → Space → (base : List ℕ) → (names : List ℕ) → Option ℕ → (last : ℕ) → Type 0
IsBest texts Q space base names None last = (last ≡ 0) × ((n : ℕ) → IsIn n names → (place : ℕ) (theory : List ℕ) → ¬ IsVisible texts Q space place theory base (Declared n))
IsBest texts Q space base names (Some best) last = ((theory : List ℕ) × IsVisible texts Q space last theory base (Declared best))
    × ((n : ℕ) → IsIn n names → (place : ℕ) (theory : List ℕ) → IsVisible texts Q space place theory base (Declared n) → place ≤ last)

-- The name is passed over: it is visible before this place alone, or nowhere.
abbrev pub IsPassed : (texts : List (List ℕ)) → Content → Space → (n last : ℕ) → Type 0
IsPassed texts Q space n last = (place : ℕ) (theory base : List ℕ) → IsVisible texts Q space place theory base (Declared n) → place < last

-- The answer to the question at which place, not before the last one, the name is visible.
abbrev pub IsLaterPlaceOf : (texts : List (List ℕ)) → Content → Space → (n last : ℕ) → Option ℕ → Type 0
IsLaterPlaceOf texts Q space n last (Some place) = IsPlaceOf texts Q space n (Some place) × (last ≤ place)
IsLaterPlaceOf texts Q space n last None = IsPassed texts Q space n last
