-- Counts over lists, one element after the other.
use Rattle.std.proofs.Common.{◌≡◌, ◌∙◌, ◌≤◌, ℕ, zero, suc, ◌+◌, List, [], ◌∷◌, ◌++◌, map, set, refl, ap, arith, Bool, true, false, cond, Some, slice_get, inl, inr}
use Rattle.std.specs.List.{count_by}
use Rattle.std.proofs.lemmas.List.Sums.{sum_by-cons}
use Rattle.std.proofs.lemmas.Option.{same_Some, none-some}
use Rattle.pure_text.specs.Lists.{IsIn}

-- one where it is so, and else none
abbrev pub one_if : Bool → ℕ
one_if true = 1
one_if false = 0

-- how many elements pass
abbrev pub counted : {A : Type 0} → (A → Bool) → List A → ℕ
counted f [] = 0
counted f (x ∷ xs) = one_if (f x) + counted f xs

pub count-counted : {A : Type 0} (f : A → Bool) (xs : List A) → count_by f xs ≡ counted f xs
count-counted f [] = refl
count-counted f (x ∷ xs) = sum_by-cons _ x xs ∙ by_flag (f x) (count-counted f xs)
  where
    by_flag : (b : Bool) → count_by f xs ≡ counted f xs → (cond b 1 0) + count_by f xs ≡ one_if b + counted f xs
    by_flag true e = ap (λ k. 1 + k) e
    by_flag false e = ap (λ k. 0 + k) e

pub counted-append : {A : Type 0} (f : A → Bool) (xs ys : List A) → counted f (xs ++ ys) ≡ counted f xs + counted f ys
counted-append f [] ys = omega arith
counted-append f (x ∷ xs) ys = let h = counted-append f xs ys in omega arith

pub counted-map : {A B : Type 0} (f : B → Bool) (g : A → B) (xs : List A) → counted f (map g xs) ≡ counted (λ x. f (g x)) xs
counted-map f g [] = refl
counted-map f g (x ∷ xs) = ap (λ k. one_if (f (g x)) + k) (counted-map f g xs)

-- two tests that agree on a list count as many
pub counted-agree : {A : Type 0} (f g : A → Bool) (xs : List A) → ((x : A) → IsIn x xs → f x ≡ g x) → counted f xs ≡ counted g xs
counted-agree f g [] same = refl
counted-agree f g (x ∷ xs) same = ap (λ b. one_if b + counted f xs) (same x (inl refl)) ∙ ap (λ k. one_if (g x) + k) (counted-agree f g xs (λ y m. same y (inr m)))

-- a test that passes wherever another does counts no less
pub one_if-le : (b c : Bool) → (b ≡ true → c ≡ true) → one_if b ≤ one_if c
one_if-le true true h = omega arith
one_if-le true false h = absurd (let e = h refl in cc)
one_if-le false true h = omega arith
one_if-le false false h = omega arith

pub counted-le : {A : Type 0} (f g : A → Bool) (xs : List A) → ((x : A) → IsIn x xs → f x ≡ true → g x ≡ true) → counted f xs ≤ counted g xs
counted-le f g [] h = omega arith
counted-le f g (x ∷ xs) h = let one = one_if-le (f x) (g x) (h x (inl refl)) in let rest = counted-le f g xs (λ y m. h y (inr m)) in omega arith

-- one element changed
pub counted-set : {A : Type 0} (f : A → Bool) (xs : List A) (n : ℕ) (x y : A) → slice_get xs n ≡ Some x → counted f (set xs n y) + one_if (f x) ≡ counted f xs + one_if (f y)
counted-set f [] n x y at = absurd (none-some x at)
counted-set f (z ∷ xs) zero x y at = let same = ap (λ w. one_if (f w)) (same_Some z x at) in omega arith
counted-set f (z ∷ xs) (suc n) x y at = let rest = counted-set f xs n x y at in omega arith
