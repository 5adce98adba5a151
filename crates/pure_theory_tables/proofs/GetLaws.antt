-- Lists by their places.
use Rattle.std.proofs.Common.{◌≡◌, ℕ, zero, suc, ◌+◌, List, [], ◌∷◌, ◌++◌, take, drop, add-one, refl, ap, sym, inl, inr}
use Rattle.std.proofs.lemmas.Option.{same_Some, none-some}
use Rattle.std.specs.Prelude.{Some, None, slice_get}
use Rattle.pure_text.specs.Lists.{IsIn, Each, AreDistinct}

pub get_in : {A : Type 0} (xs : List A) (i : ℕ) (x : A) → slice_get xs i ≡ Some x → IsIn x xs
get_in [] i x e = absurd (none-some x e)
get_in (y ∷ ys) zero x e = inl (sym (same_Some y x e))
get_in (y ∷ ys) (suc i) x e = inr (get_in ys i x e)

pub split_get : {A : Type 0} (xs : List A) (i : ℕ) (x : A) → slice_get xs i ≡ Some x → xs ≡ take i xs ++ x ∷ drop (suc i) xs
split_get [] i x e = absurd (none-some x e)
split_get (y ∷ ys) zero x e = ap (λ z. z ∷ ys) (same_Some y x e)
split_get (y ∷ ys) (suc i) x e = ap (λ zs. y ∷ zs) (split_get ys i x e)

pub take_next : {A : Type 0} (xs : List A) (i : ℕ) (x : A) → slice_get xs i ≡ Some x → take (suc i) xs ≡ take i xs ++ x ∷ []
take_next [] i x e = absurd (none-some x e)
take_next (y ∷ ys) zero x e = ap (λ z. z ∷ []) (same_Some y x e)
take_next (y ∷ ys) (suc i) x e = ap (λ zs. y ∷ zs) (take_next ys i x e)

pub all_taken : {A : Type 0} (xs : List A) (i : ℕ) → slice_get xs i ≡ None → take i xs ≡ xs
all_taken [] zero e = refl
all_taken [] (suc i) e = refl
all_taken (y ∷ ys) zero e = absurd (none-some y (sym e))
all_taken (y ∷ ys) (suc i) e = ap (λ zs. y ∷ zs) (all_taken ys i e)

absent_next : {A : Type 0} (xs : List A) (i : ℕ) (x : A) → ¬ IsIn x (take i xs) → ¬ (slice_get xs i ≡ Some x) → ¬ IsIn x (take (suc i) xs)
absent_next [] i x before here m = absurd m
absent_next (y ∷ ys) zero x before here m = elim m [ inl e ↦ here (ap Some (sym e)) | inr none ↦ absurd none ]
absent_next (y ∷ ys) (suc i) x before here m = elim m [ inl e ↦ before (inl e) | inr n ↦ absent_next ys i x (λ k. before (inr k)) here n ]

-- One turn of a look for an element.
pub absent_turn : {A : Type 0} (xs : List A) (i : ℕ) (x : A) → ¬ IsIn x (take i xs) → ¬ (slice_get xs i ≡ Some x) → ¬ IsIn x (take (i + 1) xs)
absent_turn xs i x before here = rw add-one (absent_next xs i x before here)

each_next : {A : Type 0} (P : A → Type 0) (xs : List A) (i : ℕ) (x : A) → slice_get xs i ≡ Some x → Each P (take i xs) → P x → Each P (take (suc i) xs)
each_next P [] i x e before p = absurd (none-some x e)
each_next P (y ∷ ys) zero x e before p = (rw (same_Some y x e) p, tt)
each_next P (y ∷ ys) (suc i) x e before p = (before.0, each_next P ys i x e before.1 p)

-- One turn of a test of each element.
pub each_turn_at : {A : Type 0} (P : A → Type 0) (xs : List A) (i : ℕ) (x : A) → slice_get xs i ≡ Some x → Each P (take i xs) → P x → Each P (take (i + 1) xs)
each_turn_at P xs i x e before p = rw add-one (each_next P xs i x e before p)

-- Of different elements the one at a place isn't among those before it.
pub new_at : {A : Type 0} (xs : List A) (i : ℕ) (x : A) → slice_get xs i ≡ Some x → AreDistinct xs → ¬ IsIn x (take i xs)
new_at [] i x e d m = absurd (none-some x e)
new_at (y ∷ ys) zero x e d m = absurd m
new_at (y ∷ ys) (suc i) x e d m = elim m [ inl same ↦ d.0 (rw (← same) (get_in ys i x e)) | inr n ↦ new_at ys i x e d.1 n ]
