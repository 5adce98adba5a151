-- What stands in a list that was changed at one place.
use Rattle.std.proofs.Common.{◌≡◌, ◌≢◌, ℕ, zero, suc, List, [], ◌∷◌, ◌++◌, length, set, refl, sym, ap, ◌∙◌, arith, Option, Some, None, slice_get, inl, inr, ◌⊎◌, subst}
use Rattle.std.proofs.lemmas.Option.{same_Some, none-some}
use Rattle.std.proofs.lemmas.List.{length-set}
use Rattle.pure_text.specs.Lists.{Each}
use Rattle.pure_machine.specs.State.{Progress, Promise, Standing, theory_at, with_progress, with_standing, restood}
use Rattle.pure_machine.specs.Step.{IsClosed}

-- the element put there, or what stood at another place
pub changed-at : {A : Type 0} (xs : List A) (k : ℕ) (x : A) (m : ℕ) (y : A) → slice_get (set xs k x) m ≡ Some y → ((m ≡ k) × (x ≡ y)) ⊎ ((m ≢ k) × (slice_get xs m ≡ Some y))
changed-at [] zero x m y e = absurd (none-some y e)
changed-at [] (suc k) x m y e = absurd (none-some y e)
changed-at (z ∷ xs) zero x zero y e = inl (refl, same_Some x y e)
changed-at (z ∷ xs) zero x (suc m) y e = inr (λ same. absurd (omega (arith, same)), e)
changed-at (z ∷ xs) (suc k) x zero y e = inr (λ same. absurd (omega (arith, same)), e)
changed-at (z ∷ xs) (suc k) x (suc m) y e = elim (changed-at xs k x m y e) [
  | inl here ↦ inl (ap suc here.0, here.1)
  | inr there ↦ inr (λ same. there.0 (omega (arith, same)), there.1)
]

-- the element put behind the others, or one of them
pub pushed-at : {A : Type 0} (xs : List A) (x : A) (m : ℕ) (y : A) → slice_get (xs ++ x ∷ []) m ≡ Some y → ((m ≡ length xs) × (x ≡ y)) ⊎ (slice_get xs m ≡ Some y)
pushed-at [] x zero y e = inl (refl, same_Some x y e)
pushed-at [] x (suc m) y e = absurd (none-some y e)
pushed-at (z ∷ xs) x zero y e = inr e
pushed-at (z ∷ xs) x (suc m) y e = elim (pushed-at xs x m y e) [ inl here ↦ inl (ap suc here.0, here.1) | inr there ↦ inr there ]

-- the element put there stands there
pub set-there : {A : Type 0} (xs : List A) (k : ℕ) (x y : A) → slice_get xs k ≡ Some y → slice_get (set xs k x) k ≡ Some x
set-there [] k x y e = absurd (none-some y e)
set-there (z ∷ xs) zero x y e = refl
set-there (z ∷ xs) (suc k) x y e = set-there xs k x y e

-- the same of theories by their numbers
pub theory-changed : {C : Type 0} (ts : List (Progress C)) (i : ℕ) (p : Progress C) (j : ℕ) (q : Progress C) → theory_at (with_progress ts i p) j ≡ Some q → ((j ≡ i) × (p ≡ q)) ⊎ ((j ≢ i) × (theory_at ts j ≡ Some q))
theory-changed ts i p zero q e = absurd (none-some q e)
theory-changed ts zero p (suc j) q e = inr (λ same. absurd (omega (arith, same)), e)
theory-changed ts (suc i) p (suc j) q e = elim (changed-at ts i p j q e) [
  | inl here ↦ inl (ap suc here.0, here.1)
  | inr there ↦ inr (λ same. there.0 (omega (arith, same)), there.1)
]

pub theory-there : {C : Type 0} (ts : List (Progress C)) (i : ℕ) (p q : Progress C) → theory_at ts i ≡ Some q → theory_at (with_progress ts i p) i ≡ Some p
theory-there ts zero p q e = absurd (none-some q e)
theory-there ts (suc i) p q e = set-there ts i p q e

-- a promise that stands otherwise now
abbrev pub standing_so : {G O : Type 0} → Promise G O → Standing O → Promise G O
standing_so p s = record { theory = p.theory; command = p.command; goal = p.goal; standing = s }

restood-at : {G O : Type 0} (ps : List (Promise G O)) (n : ℕ) (o : Option (Promise G O)) (s : Standing O) (m : ℕ) (q : Promise G O) → slice_get (restood ps n o s) m ≡ Some q
    → ((p : Promise G O) × (o ≡ Some p) × (m ≡ n) × (standing_so p s ≡ q)) ⊎ ((slice_get ps m ≡ Some q) × ((m ≢ n) ⊎ (o ≡ None)))
restood-at ps n None s m q e = inr (e, inr refl)
restood-at ps n (Some p) s m q e = elim (changed-at ps n (standing_so p s) m q e) [
  | inl here ↦ inl (p, refl, here.0, here.1)
  | inr there ↦ inr (there.1, inl there.0)
]

-- the same of promises: the one that stands otherwise, or one at another place
pub promise-changed : {G O : Type 0} (ps : List (Promise G O)) (n : ℕ) (s : Standing O) (m : ℕ) (q : Promise G O) → slice_get (with_standing ps n s) m ≡ Some q
    → ((p : Promise G O) × (slice_get ps n ≡ Some p) × (m ≡ n) × (standing_so p s ≡ q)) ⊎ ((slice_get ps m ≡ Some q) × (m ≢ n))
promise-changed ps n s m q e = elim (restood-at ps n (slice_get ps n) s m q e) [
  | inl here ↦ inl here
  | inr there ↦ elim there.1 [
    | inl other ↦ inr (there.0, other)
    | inr none ↦ inr (there.0, λ same. none-some q (sym none ∙ ap (slice_get ps) (sym same) ∙ there.0))
  ]
]

restood-there : {G O : Type 0} (ps : List (Promise G O)) (n : ℕ) (o : Option (Promise G O)) (s : Standing O) (p : Promise G O) → o ≡ Some p → slice_get ps n ≡ Some p → slice_get (restood ps n o s) n ≡ Some (standing_so p s)
restood-there ps n None s p e at = absurd (none-some p e)
restood-there ps n (Some q) s p e at = set-there ps n (standing_so q s) p at ∙ ap (λ x. Some (standing_so x s)) (same_Some q p e)

pub promise-there : {G O : Type 0} (ps : List (Promise G O)) (n : ℕ) (s : Standing O) (p : Promise G O) → slice_get ps n ≡ Some p → slice_get (with_standing ps n s) n ≡ Some (standing_so p s)
promise-there ps n s p at = restood-there ps n (slice_get ps n) s p at at

-- As many stand in a list when one of them is changed.
length-restood : {G O : Type 0} (ps : List (Promise G O)) (n : ℕ) (found : Option (Promise G O)) (t : Standing O) → length (restood ps n found t) ≡ length ps
length-restood ps n None t = refl
length-restood ps n (Some p) t = length-set ps n (standing_so p t)

pub length-standing : {G O : Type 0} (ps : List (Promise G O)) (n : ℕ) (t : Standing O) → length (with_standing ps n t) ≡ length ps
length-standing ps n t = length-restood ps n (slice_get ps n) t

pub length-progress : {C : Type 0} (ts : List (Progress C)) (j : ℕ) (p : Progress C) → length (with_progress ts j p) ≡ length ts
length-progress ts zero p = refl
length-progress ts (suc j) p = length-set ts j p

-- What all have, the one at a place has.
pub each_there : {A : Type 0} (P : A → Type 0) (xs : List A) (n : ℕ) (x : A) → Each P xs → slice_get xs n ≡ Some x → P x
each_there P [] n x each at = absurd (none-some x at)
each_there P (y ∷ xs) zero x each at = subst P (same_Some y x at) each.0
each_there P (y ∷ xs) (suc n) x each at = each_there P xs n x each.1 at

pub closed_there : {C : Type 0} (ts : List (Progress C)) (i : ℕ) (q : Progress C) → Each IsClosed ts → theory_at ts i ≡ Some q → IsClosed q
closed_there ts zero q each at = absurd (none-some q at)
closed_there ts (suc i) q each at = each_there IsClosed ts i q each at
