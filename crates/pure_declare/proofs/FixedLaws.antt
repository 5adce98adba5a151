-- Indexes of variables under reduction.
use Rattle.std.proofs.Common.{◌≡◌, ℕ, ◌+◌, ◌-◌, List, [], ◌∷◌, Bool, true, false, nat_lt, nat_eq, if◌then◌else◌, refl, subst}
use Rattle.std.specs.Prelude.{Option, Some, None, option_map}
use Rattle.pure_definitions.specs.Terms.Term.{Term, Const, Free, Var, Bound, Abs, App}
use Rattle.pure_definitions.specs.Terms.Bounds.{lift_term, subst_under, subst_bound}
use Rattle.pure_definitions.specs.Reduction.Beta.{beta_step, app_step, IsBetaSequence, IsBetaAnswer, NormalForm}
use Rattle.pure_declare.specs.Tidy.{HasTypIndexes, HasIndexes}

module _ (I : ℕ → Type 0) where
  if-has : (b : Bool) (t u : Term) → HasIndexes I t → HasIndexes I u → HasIndexes I (if b then t else u)
  if-has true t u h k = h
  if-has false t u h k = k

  lift-has : (by from : ℕ) (t : Term) → HasIndexes I t → HasIndexes I (lift_term by from t)
  lift-has by from (Const c T) h = h
  lift-has by from (Free x T) h = h
  lift-has by from (Var x i T) h = h
  lift-has by from (Bound p) h = if-has (nat_lt p from) (Bound p) (Bound (p + by)) tt tt
  lift-has by from (Abs T b) h = (h.0, lift-has by (from + 1) b h.1)
  lift-has by from (App f a) h = (lift-has by from f h.0, lift-has by from a h.1)

  subst-has : (n : ℕ) (arg t : Term) → HasIndexes I arg → HasIndexes I t → HasIndexes I (subst_under n arg t)
  subst-has n arg (Const c T) k h = h
  subst-has n arg (Free x T) k h = h
  subst-has n arg (Var x i T) k h = h
  subst-has n arg (Bound p) k h =
      if-has (nat_lt p n) (Bound p) (if nat_eq p n then lift_term n 0 arg else Bound (p - 1)) tt
      (if-has (nat_eq p n) (lift_term n 0 arg) (Bound (p - 1)) (lift-has n 0 arg k) tt)
  subst-has n arg (Abs T b) k h = (h.0, subst-has (n + 1) arg b k h.1)
  subst-has n arg (App f a) k h = (subst-has n arg f k h.0, subst-has n arg a k h.1)

  abs-has : (T : _) (o : Option Term) (u : Term) → HasTypIndexes I T → ((v : Term) → o ≡ Some v → HasIndexes I v) → option_map (Abs T) o ≡ Some u → HasIndexes I u
  abs-has T None u t f e = absurd (cc)
  abs-has T (Some v) u t f e = let same : Abs T v ≡ u = cc in subst (HasIndexes I) same (t, f v refl)

  app-has : (f a : Term) (p q : Option Term) (u : Term) → HasIndexes I f → HasIndexes I a → ((v : Term) → p ≡ Some v → HasIndexes I v) → ((v : Term) → q ≡ Some v → HasIndexes I v) → app_step f a p q ≡ Some u → HasIndexes I u
  app-has f a (Some g) q u hf ha p-has q-has e = let same : App g a ≡ u = cc in subst (HasIndexes I) same (p-has g refl, ha)
  app-has f a None None u hf ha p-has q-has e = absurd (cc)
  app-has f a None (Some b) u hf ha p-has q-has e = let same : App f b ≡ u = cc in subst (HasIndexes I) same (hf, q-has b refl)

  pub step-has : (t u : Term) → beta_step t ≡ Some u → HasIndexes I t → HasIndexes I u
  step-has (App (Abs T b) a) u e h = let same : subst_bound b a ≡ u = cc in subst (HasIndexes I) same (subst-has 0 a b h.1 h.0.1)
  step-has (App (Const c T) a) u e h = app-has (Const c T) a None (beta_step a) u h.0 h.1 (λ v n. absurd (cc)) (λ v s. step-has a v s h.1) e
  step-has (App (Free c T) a) u e h = app-has (Free c T) a None (beta_step a) u h.0 h.1 (λ v n. absurd (cc)) (λ v s. step-has a v s h.1) e
  step-has (App (Var c i T) a) u e h = app-has (Var c i T) a None (beta_step a) u h.0 h.1 (λ v n. absurd (cc)) (λ v s. step-has a v s h.1) e
  step-has (App (Bound p) a) u e h = app-has (Bound p) a None (beta_step a) u h.0 h.1 (λ v n. absurd (cc)) (λ v s. step-has a v s h.1) e
  step-has (App (App f b) a) u e h = app-has (App f b) a (beta_step (App f b)) (beta_step a) u h.0 h.1 (λ v s. step-has (App f b) v s h.0) (λ v s. step-has a v s h.1) e
  step-has (Abs T b) u e h = abs-has T (beta_step b) u h.0 (λ v s. step-has b v s h.1) e
  step-has (Const c T) u e h = absurd (cc)
  step-has (Free x T) u e h = absurd (cc)
  step-has (Var x i T) u e h = absurd (cc)
  step-has (Bound p) u e h = absurd (cc)

  sequence-has : (t : Term) (us : List Term) (u : Term) → IsBetaSequence t us u → HasIndexes I t → HasIndexes I u
  sequence-has t [] u e h = subst (HasIndexes I) e h
  sequence-has t (v ∷ vs) u s h = let next = s.1 in sequence-has next.0 vs u next.2 (step-has t next.0 next.1 h)

  -- A normal form has the indexes of the term.
  pub normal-has : (t u : Term) → IsBetaAnswer t (NormalForm u) → HasIndexes I t → HasIndexes I u
  normal-has t u a h = subst (HasIndexes I) a.decided.2 (sequence-has t a.before a.last a.sequence h)
