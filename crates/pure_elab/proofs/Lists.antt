-- Properties of each element of a list that is a map of another, and a list cut at a place.
use Rattle.std.proofs.Common.{◌≡◌, ℕ, zero, suc, List, [], ◌∷◌, ◌++◌, map, take, drop, Some, slice_get, ap}
use Rattle.pure_text.specs.Lists.{Each}

pub each_from_map : {A B : Type 0} (f : A → B) (P : B → Type 0) (xs : List A) → Each P (map f xs) → Each (λ x. P (f x)) xs
each_from_map f P [] h = tt
each_from_map f P (x ∷ xs) h = (h.0, each_from_map f P xs h.1)

pub each_to_map : {A B : Type 0} (f : A → B) (P : B → Type 0) (xs : List A) → Each (λ x. P (f x)) xs → Each P (map f xs)
each_to_map f P [] h = tt
each_to_map f P (x ∷ xs) h = (h.0, each_to_map f P xs h.1)

-- the list is what stands before the place, the element there, and what stands behind it
pub cut_at : {A : Type 0} (xs : List A) (n : ℕ) (x : A) → slice_get xs n ≡ Some x → xs ≡ take n xs ++ x ∷ drop (suc n) xs
cut_at [] n x h = absurd (cc)
cut_at (y ∷ ys) zero x h = let e : y ≡ x = cc in λ i. e i ∷ ys
cut_at (y ∷ ys) (suc n) x h = ap (λ zs. y ∷ zs) (cut_at ys n x h)

pub take_further : {A : Type 0} (xs : List A) (n : ℕ) (x : A) → slice_get xs n ≡ Some x → take (suc n) xs ≡ take n xs ++ x ∷ []
take_further [] n x h = absurd (cc)
take_further (y ∷ ys) zero x h = let e : y ≡ x = cc in λ i. e i ∷ []
take_further (y ∷ ys) (suc n) x h = ap (λ zs. y ∷ zs) (take_further ys n x h)
