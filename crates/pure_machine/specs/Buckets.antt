-- Values in buckets: each key has one, which may be that of other keys too.
use Rattle.std.specs.Prelude.{◌≡◌, ◌≢◌, ◌⊎◌, ◌%◌, ℕ, List, [], ◌∷◌, ◌++◌, length, get_or}

-- what stands in the bucket of the key
abbrev pub bucket : {A : Type 0} → (buckets : List (List A)) → (key : ℕ) → List A
bucket bs key = get_or bs (key % length bs) []

-- The value was put into the bucket of the key, behind the others.
abbrev pub IsPut : {A : Type 0} → (old new : List (List A)) → (key : ℕ) → A → Type 0
IsPut old new key x = (k : ℕ) → (bucket new k ≡ bucket old k ++ x ∷ []) ⊎ ((bucket new k ≡ bucket old k) × (k ≢ key))
