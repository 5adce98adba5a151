-- Views in a list, of which one changes or comes new.
use Rattle.std.proofs.Common.{◌≡◌, ◌≢◌, ◌⊎◌, ◌∙◌, ℕ, zero, suc, ◌<◌, List, [], ◌∷◌, ◌++◌, length, get_or, set, Bool, true, false, Option, Some, None, refl, sym, ap, subst, inl, inr, ⊎_elim, arith}
use mathlib.Core.Option.{some, some-injective, some-ne-none}
use mathlib.Core.Logic.{dite}
use native.Mathlib.Decide.{ℕ_discrete}
use lib.ListN.{get_elem?}
use Rattle.atomic_table.proofs.Lists.{at_set, set_here, set_else}

module _ {V : Type 0} where
  -- a place that has a view is one of the list
  pub is_inside : (views : List V) (place : ℕ) (v : V) → get_elem? views place ≡ some v → place < length views
  is_inside [] place v e = absurd (some-ne-none v (sym e))
  is_inside (x ∷ xs) zero v e = omega arith
  is_inside (x ∷ xs) (suc place) v e = let h = is_inside xs place v e in omega arith

  -- what is known of each view stays so, where one changes
  pub each-changed : (P : ℕ → V → Type 0) (views : List V) (place : ℕ) (w : V) → P place w → ((j : ℕ) (u : V) → j ≢ place → get_elem? views j ≡ some u → P j u) → (j : ℕ) (u : V) → get_elem? (set views place w) j ≡ some u → P j u
  each-changed P views place w here there j u at = ⊎_elim (λ t. subst (λ (x : V). P j x) t.1 (subst (λ (i : ℕ). P i w) (sym t.0) here)) (λ t. there j u t.0 t.1) (at_set views place j w u at)

  -- the view at a place of a longer list, and the new one behind all
  pub at-behind : (views : List V) (x : V) (j : ℕ) (u : V) → get_elem? (views ++ x ∷ []) j ≡ some u → (get_elem? views j ≡ some u) ⊎ ((j ≡ length views) × (x ≡ u))
  at-behind [] x zero u e = inr (refl, some-injective x u e)
  at-behind [] x (suc j) u e = absurd (some-ne-none u (sym e))
  at-behind (y ∷ views) x zero u e = inl e
  at-behind (y ∷ views) x (suc j) u e = ⊎_elim (λ t. inl t) (λ t. inr (ap suc t.0, t.1)) (at-behind views x j u e)

  -- and what is known of each, where one comes new
  pub each-behind : (P : ℕ → V → Type 0) (views : List V) (x : V) → P (length views) x → ((j : ℕ) (u : V) → get_elem? views j ≡ some u → P j u) → (j : ℕ) (u : V) → get_elem? (views ++ x ∷ []) j ≡ some u → P j u
  each-behind P views x here there j u at = ⊎_elim (λ t. there j u t) (λ t. subst (λ (y : V). P j y) t.1 (subst (λ (i : ℕ). P i x) (sym t.0) here)) (at-behind views x j u at)

  -- the only view of a list
  pub only-view : (x : V) (place : ℕ) (v : V) → get_elem? (x ∷ []) place ≡ some v → (place ≡ 0) × (v ≡ x)
  only-view x zero v e = (refl, sym (some-injective x v e))
  only-view x (suc place) v e = absurd (some-ne-none v (sym e))

  -- two views at one place
  pub one-view : (views : List V) (place : ℕ) (u v : V) → get_elem? views place ≡ some u → get_elem? views place ≡ some v → u ≡ v
  one-view views place u v a b = some-injective u v (sym a ∙ b)

  -- a view of the list at some place is there where another place changes, and the changed one at its own
  pub some-changed : (Q : V → Type 0) (views : List V) (place holder : ℕ) (v w : V) → get_elem? views place ≡ some v → (Q v → Q w) → ((x : V) × (get_elem? views holder ≡ some x) × Q x) → (x : V) × (get_elem? (set views place w) holder ≡ some x) × Q x
  some-changed Q views place holder v w at keeps had = dite (ℕ_discrete holder place)
      (λ same. (w, subst (λ (i : ℕ). get_elem? (set views place w) i ≡ some w) (sym same) (set_here views place w (is_inside views place v at)), keeps (subst Q (one-view views place had.0 v (subst (λ (i : ℕ). get_elem? views i ≡ some had.0) same had.1) at) had.2)))
      (λ other. (had.0, set_else views place holder w other ∙ had.1, had.2))

-- a list of one element, which is set
pub set-only : {A : Type 0} (xs : List A) (x : A) → length xs ≡ 1 → set xs 0 x ≡ x ∷ []
set-only [] x e = absurd (omega arith)
set-only (y ∷ []) x e = refl
set-only (y ∷ z ∷ xs) x e = absurd (omega arith)

-- a number that is set to what it is
pub set-same : (ns : List ℕ) (i : ℕ) → set ns i (get_or ns i 0) ≡ ns
set-same [] i = refl
set-same (n ∷ ns) zero = refl
set-same (n ∷ ns) (suc i) = λ j. n ∷ set-same ns i j

pub false-true : (b : Bool) → b ≡ false → b ≡ true → ⊥
false-true true e f = absurd (cc e)
false-true false e f = absurd (cc f)

pub same-some : {A : Type 0} (x y : A) (o : Option A) → o ≡ Some x → o ≡ Some y → x ≡ y
same-some x y o e f = cc (e, f)

-- what a seat has, if it has some slot
abbrev pub laid : {A : Type 0} → List (ℕ × Option A) → Option A
laid [] = None
laid (x ∷ xs) = x.1
