-- Elements at places of lists.
use Rattle.std.proofs.Common.{◌≡◌, ℕ, zero, suc, List, [], ◌∷◌, map, refl, subst}
use Rattle.std.specs.Prelude.{Some, slice_get}
use Rattle.std.proofs.lemmas.Option.{none-some, same_Some}
use Rattle.pure_text.specs.Lists.{Each}

-- an element of a list that a function made
pub slice_get-mapped : {A B : Type 0} (f : A → B) (xs : List A) (m : ℕ) (y : B) → slice_get (map f xs) m ≡ Some y → (x : A) × (slice_get xs m ≡ Some x) × (f x ≡ y)
slice_get-mapped f [] m y e = absurd (none-some y e)
slice_get-mapped f (x ∷ xs) zero y e = (x, refl, same_Some (f x) y e)
slice_get-mapped f (x ∷ xs) (suc m) y e = slice_get-mapped f xs m y e

-- what each element has, the one at a place has
pub each_there : {A : Type 0} (P : A → Type 0) (xs : List A) (n : ℕ) (x : A) → Each P xs → slice_get xs n ≡ Some x → P x
each_there P [] n x h e = absurd (none-some x e)
each_there P (y ∷ ys) zero x h e = subst P (same_Some y x e) h.0
each_there P (y ∷ ys) (suc n) x h e = each_there P ys n x h.1 e
