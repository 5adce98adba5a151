-- Texts whose bytes stand one behind the other.
use Rattle.std.specs.Prelude.{◌≡◌, ◌≤◌, ℕ, zero, suc, List, [], ◌∷◌, slice_range}

-- the texts that end at these places of the bytes; the first begins at `from`, each other one where the one before it ends
abbrev pub pieces : (bytes : List ℕ) → (from : ℕ) → (ends : List ℕ) → List (List ℕ)
pieces bytes from [] = []
pieces bytes from (end ∷ ends) = slice_range bytes from end ∷ pieces bytes end ends

-- The ends rise, from this place on, and the last is the end of all bytes.
abbrev pub AreEnds : (count : ℕ) → (from : ℕ) → (ends : List ℕ) → Type 0
AreEnds count from [] = from ≡ count
AreEnds count from (end ∷ ends) = (from ≤ end) × AreEnds count end ends

-- where the text at a place begins
abbrev pub beginning : (from : ℕ) → (ends : List ℕ) → (place : ℕ) → ℕ
beginning from [] place = from
beginning from (end ∷ ends) zero = from
beginning from (end ∷ ends) (suc place) = beginning end ends place
