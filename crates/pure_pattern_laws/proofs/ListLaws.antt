-- What stands at the places of bound variables in lists.
use Rattle.std.proofs.Common.{◌≡◌, ◌⊎◌, ℕ, zero, suc, ◌<◌, inl, inr, List, [], ◌∷◌, Bool, true, false, ap, refl, sym, subst, ◌∙◌, arith, nat_eq, Option, Some, None}
use Rattle.std.proofs.lemmas.Bool.{eqb-true}
use Rattle.std.specs.Prelude.{if◌then◌else◌}
use Rattle.std.specs.List.{list_any}
use Rattle.pure_text.specs.Lists.{IsIn, EachTwo, AreDistinct}
use Rattle.pure_pattern_laws.specs.Places.{agreeing, shared_left, at_place, with_first, shared_right}

-- Elements of two lists that are related stay so.
module _ {A B : Type 0} (R : A → B → Type 0) where
  kept : (b : Bool) (x : A) (y : B) (xs : List A) (ys : List B) → R x y → EachTwo R xs ys → EachTwo R (if b then (x ∷ xs) else xs) (if b then (y ∷ ys) else ys)
  kept true x y xs ys h k = (h, k)
  kept false x y xs ys h k = k

  pub agreeing-two : (zs ws : List ℕ) (xs : List A) (ys : List B) → EachTwo R xs ys → EachTwo R (agreeing zs ws xs) (agreeing zs ws ys)
  agreeing-two [] ws xs ys h = tt
  agreeing-two (z ∷ zs) [] xs ys h = tt
  agreeing-two (z ∷ zs) (w ∷ ws) [] [] h = tt
  agreeing-two (z ∷ zs) (w ∷ ws) [] (y ∷ ys) h = absurd h
  agreeing-two (z ∷ zs) (w ∷ ws) (x ∷ xs) [] h = absurd h
  agreeing-two (z ∷ zs) (w ∷ ws) (x ∷ xs) (y ∷ ys) h = kept (nat_eq z w) x y (agreeing zs ws xs) (agreeing zs ws ys) h.0 (agreeing-two zs ws xs ys h.1)

  pub shared_left-two : (zs ws : List ℕ) (xs : List A) (ys : List B) → EachTwo R xs ys → EachTwo R (shared_left zs ws xs) (shared_left zs ws ys)
  shared_left-two [] ws xs ys h = tt
  shared_left-two (z ∷ zs) ws [] [] h = tt
  shared_left-two (z ∷ zs) ws [] (y ∷ ys) h = absurd h
  shared_left-two (z ∷ zs) ws (x ∷ xs) [] h = absurd h
  shared_left-two (z ∷ zs) ws (x ∷ xs) (y ∷ ys) h = kept (list_any (nat_eq z) ws) x y (shared_left zs ws xs) (shared_left zs ws ys) h.0 (shared_left-two zs ws xs ys h.1)

  abbrev pub AreAlike : Option A → Option B → Type 0
  AreAlike None None = Unit {0}
  AreAlike (Some x) (Some y) = R x y
  AreAlike _ _ = ⊥

  alike-choice : (b : Bool) (x : A) (y : B) (p : Option A) (q : Option B) → R x y → AreAlike p q → AreAlike (if b then Some x else p) (if b then Some y else q)
  alike-choice true x y p q h k = h
  alike-choice false x y p q h k = k

  pub at_place-two : (z : ℕ) (ws : List ℕ) (xs : List A) (ys : List B) → EachTwo R xs ys → AreAlike (at_place z ws xs) (at_place z ws ys)
  at_place-two z [] xs ys h = tt
  at_place-two z (w ∷ ws) [] [] h = tt
  at_place-two z (w ∷ ws) [] (y ∷ ys) h = absurd h
  at_place-two z (w ∷ ws) (x ∷ xs) [] h = absurd h
  at_place-two z (w ∷ ws) (x ∷ xs) (y ∷ ys) h = alike-choice (nat_eq z w) x y (at_place z ws xs) (at_place z ws ys) h.0 (at_place-two z ws xs ys h.1)

  with_first-two : (p : Option A) (q : Option B) (xs : List A) (ys : List B) → AreAlike p q → EachTwo R xs ys → EachTwo R (with_first p xs) (with_first q ys)
  with_first-two None None xs ys h k = k
  with_first-two None (Some y) xs ys h k = absurd h
  with_first-two (Some x) None xs ys h k = absurd h
  with_first-two (Some x) (Some y) xs ys h k = (h, k)

  pub shared_right-two : (zs ws : List ℕ) (xs : List A) (ys : List B) → EachTwo R xs ys → EachTwo R (shared_right zs ws xs) (shared_right zs ws ys)
  shared_right-two [] ws xs ys h = tt
  shared_right-two (z ∷ zs) ws xs ys h = with_first-two (at_place z ws xs) (at_place z ws ys) (shared_right zs ws xs) (shared_right zs ws ys) (at_place-two z ws xs ys h) (shared_right-two zs ws xs ys h)

  pub at_place-both : (z : ℕ) (ws : List ℕ) (xs : List A) (ys : List B) (x : A) (y : B) → EachTwo R xs ys → at_place z ws xs ≡ Some x → at_place z ws ys ≡ Some y → R x y
  at_place-both z ws xs ys x y h e f = rw (e, f) at (at_place-two z ws xs ys h)

-- Elements of what is kept are elements of the list, and where these are distinct so are those.
module _ {A : Type 0} where
  in-kept : (b : Bool) (x y : A) (xs : List A) → IsIn y (if b then (x ∷ xs) else xs) → (y ≡ x) ⊎ IsIn y xs
  in-kept true x y xs (inl e) = inl e
  in-kept true x y xs (inr m) = inr m
  in-kept false x y xs m = inr m

  in-agreeing : (zs ws : List ℕ) (xs : List A) (y : A) → IsIn y (agreeing zs ws xs) → IsIn y xs
  in-agreeing [] ws xs y m = absurd m
  in-agreeing (z ∷ zs) [] xs y m = absurd m
  in-agreeing (z ∷ zs) (w ∷ ws) [] y m = absurd m
  in-agreeing (z ∷ zs) (w ∷ ws) (x ∷ xs) y m = elim (in-kept (nat_eq z w) x y (agreeing zs ws xs) m) [ inl e ↦ inl e | inr k ↦ inr (in-agreeing zs ws xs y k) ]

  in-shared_left : (zs ws : List ℕ) (xs : List A) (y : A) → IsIn y (shared_left zs ws xs) → IsIn y xs
  in-shared_left [] ws xs y m = absurd m
  in-shared_left (z ∷ zs) ws [] y m = absurd m
  in-shared_left (z ∷ zs) ws (x ∷ xs) y m = elim (in-kept (list_any (nat_eq z) ws) x y (shared_left zs ws xs) m) [ inl e ↦ inl e | inr k ↦ inr (in-shared_left zs ws xs y k) ]

  distinct-kept : (b : Bool) (x : A) (xs : List A) → ¬ IsIn x xs → AreDistinct xs → AreDistinct (if b then (x ∷ xs) else xs)
  distinct-kept true x xs n d = (n, d)
  distinct-kept false x xs n d = d

  pub distinct-agreeing : (zs ws : List ℕ) (xs : List A) → AreDistinct xs → AreDistinct (agreeing zs ws xs)
  distinct-agreeing [] ws xs d = tt
  distinct-agreeing (z ∷ zs) [] xs d = tt
  distinct-agreeing (z ∷ zs) (w ∷ ws) [] d = tt
  distinct-agreeing (z ∷ zs) (w ∷ ws) (x ∷ xs) d = distinct-kept (nat_eq z w) x (agreeing zs ws xs) (λ m. d.0 (in-agreeing zs ws xs x m)) (distinct-agreeing zs ws xs d.1)

  pub distinct-shared_left : (zs ws : List ℕ) (xs : List A) → AreDistinct xs → AreDistinct (shared_left zs ws xs)
  distinct-shared_left [] ws xs d = tt
  distinct-shared_left (z ∷ zs) ws [] d = tt
  distinct-shared_left (z ∷ zs) ws (x ∷ xs) d = distinct-kept (list_any (nat_eq z) ws) x (shared_left zs ws xs) (λ m. d.0 (in-shared_left zs ws xs x m)) (distinct-shared_left zs ws xs d.1)

  pub first-some : (b : Bool) (x y : A) (p : Option A) → (if b then Some x else p) ≡ Some y → ((b ≡ true) × (x ≡ y)) ⊎ ((b ≡ false) × (p ≡ Some y))
  first-some true x y p e = inl (refl, cc)
  first-some false x y p e = inr (refl, e)

  pub in-at_place : (z : ℕ) (ws : List ℕ) (xs : List A) (x : A) → at_place z ws xs ≡ Some x → IsIn x xs
  in-at_place z [] xs x e = absurd (cc)
  in-at_place z (w ∷ ws) [] x e = absurd (cc)
  in-at_place z (w ∷ ws) (y ∷ ys) x e = elim (first-some (nat_eq z w) y x (at_place z ws ys) e) [ inl k ↦ inl (sym k.1) | inr k ↦ inr (in-at_place z ws ys x k.1) ]

  -- One element stands at the place of one bound variable.
  pub at_place-once : (z v : ℕ) (ws : List ℕ) (xs : List A) (x : A) → AreDistinct xs → at_place z ws xs ≡ Some x → at_place v ws xs ≡ Some x → z ≡ v
  at_place-once z v [] xs x d e f = absurd (cc)
  at_place-once z v (w ∷ ws) [] x d e f = absurd (cc)
  at_place-once z v (w ∷ ws) (y ∷ ys) x d e f = by_cases (first-some (nat_eq z w) y x (at_place z ws ys) e) (first-some (nat_eq v w) y x (at_place v ws ys) f) (λ h k. at_place-once z v ws ys x d.1 h k)
    where
      by_cases : ((nat_eq z w ≡ true) × (y ≡ x)) ⊎ ((nat_eq z w ≡ false) × (at_place z ws ys ≡ Some x)) → ((nat_eq v w ≡ true) × (y ≡ x)) ⊎ ((nat_eq v w ≡ false) × (at_place v ws ys ≡ Some x))
          → (at_place z ws ys ≡ Some x → at_place v ws ys ≡ Some x → z ≡ v) → z ≡ v
      by_cases (inl h) (inl k) rest = eqb-true z w h.0 ∙ sym (eqb-true v w k.0)
      by_cases (inl h) (inr k) rest = absurd (d.0 (subst (λ a. IsIn a ys) (sym h.1) (in-at_place v ws ys x k.1)))
      by_cases (inr h) (inl k) rest = absurd (d.0 (subst (λ a. IsIn a ys) (sym k.1) (in-at_place z ws ys x h.1)))
      by_cases (inr h) (inr k) rest = rest h.1 k.1

  in-with_first : (p : Option A) (xs : List A) (y : A) → IsIn y (with_first p xs) → (p ≡ Some y) ⊎ IsIn y xs
  in-with_first None xs y m = inr m
  in-with_first (Some x) xs y (inl e) = inl (ap (λ a. Some a) (sym e))
  in-with_first (Some x) xs y (inr m) = inr m

  in-shared_right : (zs ws : List ℕ) (xs : List A) (y : A) → IsIn y (shared_right zs ws xs) → (z : ℕ) × IsIn z zs × (at_place z ws xs ≡ Some y)
  in-shared_right [] ws xs y m = absurd m
  in-shared_right (z ∷ zs) ws xs y m = elim (in-with_first (at_place z ws xs) (shared_right zs ws xs) y m) [
    | inl e ↦ (z, inl refl, e)
    | inr k ↦ (let rest = in-shared_right zs ws xs y k in (rest.0, inr rest.1, rest.2))
  ]

  distinct-with_first : (p : Option A) (xs : List A) → ((x : A) → p ≡ Some x → ¬ IsIn x xs) → AreDistinct xs → AreDistinct (with_first p xs)
  distinct-with_first None xs n d = d
  distinct-with_first (Some x) xs n d = (n x refl, d)

  pub distinct-shared_right : (zs ws : List ℕ) (xs : List A) → AreDistinct zs → AreDistinct xs → AreDistinct (shared_right zs ws xs)
  distinct-shared_right [] ws xs c d = tt
  distinct-shared_right (z ∷ zs) ws xs c d =
      distinct-with_first (at_place z ws xs) (shared_right zs ws xs)
      (λ x e m. (let found = in-shared_right zs ws xs x m in c.0 (subst (λ v. IsIn v zs) (sym (at_place-once z found.0 ws xs x d e found.2)) found.1)))
      (distinct-shared_right zs ws xs c.1 d)

-- Bound variables of n abstractions, as numbers.
abbrev pub numbers : ℕ → List ℕ
numbers zero = []
numbers (suc n) = n ∷ numbers n

pub low-numbers : (n m : ℕ) → IsIn m (numbers n) → m < n
low-numbers zero m h = absurd h
low-numbers (suc n) m (inl e) = omega arith
low-numbers (suc n) m (inr k) = (let l = low-numbers n m k in omega arith)

pub distinct-numbers : (n : ℕ) → AreDistinct (numbers n)
distinct-numbers zero = tt
distinct-numbers (suc n) = (λ m. (let l = low-numbers n n m in absurd (omega arith)), distinct-numbers n)
