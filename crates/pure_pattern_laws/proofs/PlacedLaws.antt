-- Terms in place of all bound variables at once, and bound variables renamed at once.
use Rattle.std.proofs.Common.{◌≡◌, ℕ, zero, suc, ◌+◌, List, [], ◌∷◌, length, Bool, true, false, ap, refl, sym, subst, ◌∙◌, arith, nat_eq, nat_lt}
use Rattle.std.proofs.lemmas.Bool.Decides.{nat_tests}
use Rattle.std.specs.Prelude.{◌-◌}
use Rattle.pure_definitions.specs.Types.Typ.{Typ}
use Rattle.pure_definitions.specs.Terms.Term.{Term, Const, Free, Var, Bound, Abs, App}
use Rattle.pure_definitions.specs.Terms.Bounds.{lift_term, place_at, subst_under, subst_bound}
use Rattle.pure_definitions.proofs.LiftLaws.{lifted, lift_term-bound, subst-lift}
use Rattle.pure_term_laws.proofs.BoundLaws.{lift-zero, lift-again}
use Rattle.pure_reduction.specs.Steps.{BetaStep, BetaReduces}
use Rattle.pure_reduction.proofs.StepLaws.{reduces-then, reduces-application}
use Rattle.pure_unify_definitions.specs.Fronts.{below, applied}

-- what renames bound variables under one binder more
abbrev pub raised : (ℕ → ℕ) → ℕ → ℕ
raised r zero = zero
raised r (suc p) = suc (r p)

-- the term with each loose bound variable renamed
abbrev pub renaming : (ℕ → ℕ) → Term → Term
renaming r (Const c T) = Const c T
renaming r (Free x T) = Free x T
renaming r (Var x i T) = Var x i T
renaming r (Bound p) = Bound (r p)
renaming r (Abs T b) = Abs T (renaming (raised r) b)
renaming r (App f a) = App (renaming r f) (renaming r a)

-- what stands for bound variables under one binder more
abbrev pub shifted : (ℕ → Term) → ℕ → Term
shifted s zero = Bound zero
shifted s (suc p) = renaming suc (s p)

-- the term with a term in place of each loose bound variable
abbrev pub placed : (ℕ → Term) → Term → Term
placed s (Const c T) = Const c T
placed s (Free x T) = Free x T
placed s (Var x i T) = Var x i T
placed s (Bound p) = s p
placed s (Abs T b) = Abs T (placed (shifted s) b)
placed s (App f a) = App (placed s f) (placed s a)

pub renaming-same : (r q : ℕ → ℕ) → ((p : ℕ) → r p ≡ q p) → (t : Term) → renaming r t ≡ renaming q t
renaming-same r q e (Const c T) = refl
renaming-same r q e (Free x T) = refl
renaming-same r q e (Var x i T) = refl
renaming-same r q e (Bound p) = ap Bound (e p)
renaming-same r q e (Abs T b) = ap (Abs T) (renaming-same (raised r) (raised q) inner b)
  where
    inner : (p : ℕ) → raised r p ≡ raised q p
    inner zero = refl
    inner (suc p) = ap (λ n. suc n) (e p)
renaming-same r q e (App f a) = λ l. App (renaming-same r q e f l) (renaming-same r q e a l)

pub placed-same : (s u : ℕ → Term) → ((p : ℕ) → s p ≡ u p) → (t : Term) → placed s t ≡ placed u t
placed-same s u e (Const c T) = refl
placed-same s u e (Free x T) = refl
placed-same s u e (Var x i T) = refl
placed-same s u e (Bound p) = e p
placed-same s u e (Abs T b) = ap (Abs T) (placed-same (shifted s) (shifted u) inner b)
  where
    inner : (p : ℕ) → shifted s p ≡ shifted u p
    inner zero = refl
    inner (suc p) = ap (renaming suc) (e p)
placed-same s u e (App f a) = λ l. App (placed-same s u e f l) (placed-same s u e a l)

pub placed-bounds : (t : Term) → placed (λ p. Bound p) t ≡ t
placed-bounds (Const c T) = refl
placed-bounds (Free x T) = refl
placed-bounds (Var x i T) = refl
placed-bounds (Bound p) = refl
placed-bounds (Abs T b) = ap (Abs T) (placed-same (shifted (λ p. Bound p)) (λ p. Bound p) inner b ∙ placed-bounds b)
  where
    inner : (p : ℕ) → shifted (λ p. Bound p) p ≡ Bound p
    inner zero = refl
    inner (suc p) = refl
placed-bounds (App f a) = λ l. App (placed-bounds f l) (placed-bounds a l)

-- A renaming puts bound variables.
pub placed-renaming : (r : ℕ → ℕ) (t : Term) → placed (λ p. Bound (r p)) t ≡ renaming r t
placed-renaming r (Const c T) = refl
placed-renaming r (Free x T) = refl
placed-renaming r (Var x i T) = refl
placed-renaming r (Bound p) = refl
placed-renaming r (Abs T b) = ap (Abs T) (placed-same (shifted (λ p. Bound (r p))) (λ p. Bound (raised r p)) inner b ∙ placed-renaming (raised r) b)
  where
    inner : (p : ℕ) → shifted (λ p. Bound (r p)) p ≡ Bound (raised r p)
    inner zero = refl
    inner (suc p) = refl
placed-renaming r (App f a) = λ l. App (placed-renaming r f l) (placed-renaming r a l)

-- What is put into a renamed term.
pub placed_after-renaming : (s : ℕ → Term) (r : ℕ → ℕ) (t : Term) → placed s (renaming r t) ≡ placed (λ p. s (r p)) t
placed_after-renaming s r (Const c T) = refl
placed_after-renaming s r (Free x T) = refl
placed_after-renaming s r (Var x i T) = refl
placed_after-renaming s r (Bound p) = refl
placed_after-renaming s r (Abs T b) = ap (Abs T) (placed_after-renaming (shifted s) (raised r) b ∙ placed-same (λ p. shifted s (raised r p)) (shifted (λ p. s (r p))) inner b)
  where
    inner : (p : ℕ) → shifted s (raised r p) ≡ shifted (λ p. s (r p)) p
    inner zero = refl
    inner (suc p) = refl
placed_after-renaming s r (App f a) = λ l. App (placed_after-renaming s r f l) (placed_after-renaming s r a l)

pub renaming-renaming : (q r : ℕ → ℕ) (t : Term) → renaming q (renaming r t) ≡ renaming (λ p. q (r p)) t
renaming-renaming q r t = sym (placed-renaming q (renaming r t)) ∙ (placed_after-renaming (λ p. Bound (q p)) r t ∙ placed-renaming (λ p. q (r p)) t)

-- A renaming of what was put.
pub renaming_after-placed : (r : ℕ → ℕ) (s : ℕ → Term) (t : Term) → renaming r (placed s t) ≡ placed (λ p. renaming r (s p)) t
renaming_after-placed r s (Const c T) = refl
renaming_after-placed r s (Free x T) = refl
renaming_after-placed r s (Var x i T) = refl
renaming_after-placed r s (Bound p) = refl
renaming_after-placed r s (Abs T b) = ap (Abs T) (renaming_after-placed (raised r) (shifted s) b ∙ placed-same (λ p. renaming (raised r) (shifted s p)) (shifted (λ p. renaming r (s p))) inner b)
  where
    inner : (p : ℕ) → renaming (raised r) (shifted s p) ≡ shifted (λ p. renaming r (s p)) p
    inner zero = refl
    inner (suc p) = renaming-renaming (raised r) suc (s p) ∙ sym (renaming-renaming suc r (s p))
renaming_after-placed r s (App f a) = λ l. App (renaming_after-placed r s f l) (renaming_after-placed r s a l)

pub placed-placed : (u s : ℕ → Term) (t : Term) → placed u (placed s t) ≡ placed (λ p. placed u (s p)) t
placed-placed u s (Const c T) = refl
placed-placed u s (Free x T) = refl
placed-placed u s (Var x i T) = refl
placed-placed u s (Bound p) = refl
placed-placed u s (Abs T b) = ap (Abs T) (placed-placed (shifted u) (shifted s) b ∙ placed-same (λ p. placed (shifted u) (shifted s p)) (shifted (λ p. placed u (s p))) inner b)
  where
    inner : (p : ℕ) → placed (shifted u) (shifted s p) ≡ shifted (λ p. placed u (s p)) p
    inner zero = refl
    inner (suc p) = placed_after-renaming (shifted u) suc (s p) ∙ sym (renaming_after-placed suc u (s p))
placed-placed u s (App f a) = λ l. App (placed-placed u s f l) (placed-placed u s a l)

-- Lifting is a renaming.
raised-lifted : (by from p : ℕ) → lifted by (from + 1) p ≡ raised (lifted by from) p
raised-lifted by from zero = grind (arith, nat_tests)
raised-lifted by from (suc p) = grind (arith, nat_tests)

pub lift-renaming : (by from : ℕ) (t : Term) → lift_term by from t ≡ renaming (lifted by from) t
lift-renaming by from (Const c T) = refl
lift-renaming by from (Free x T) = refl
lift-renaming by from (Var x i T) = refl
lift-renaming by from (Bound p) = lift_term-bound by from p
lift-renaming by from (Abs T b) = ap (Abs T) (lift-renaming by (from + 1) b ∙ renaming-same (lifted by (from + 1)) (raised (lifted by from)) (raised-lifted by from) b)
lift-renaming by from (App f a) = λ l. App (lift-renaming by from f l) (lift-renaming by from a l)

lifted-suc : (p : ℕ) → lifted 1 0 p ≡ suc p
lifted-suc p = grind (arith, nat_tests)

pub lift-suc : (t : Term) → lift_term 1 0 t ≡ renaming suc t
lift-suc t = lift-renaming 1 0 t ∙ renaming-same (lifted 1 0) suc lifted-suc t

-- Instantiation puts terms.
shifted-place : (n : ℕ) (a : Term) (p : ℕ) → place_at (n + 1) a p ≡ shifted (place_at n a) p
shifted-place n a zero = (let low : nat_lt 0 (n + 1) ≡ true = grind (arith, nat_tests) in rw low refl)
shifted-place n a (suc p) = by_cases (nat_lt p n) refl (nat_eq p n) refl
  where
    by_cases : (b : Bool) → nat_lt p n ≡ b → (c : Bool) → nat_eq p n ≡ c → place_at (n + 1) a (suc p) ≡ renaming suc (place_at n a p)
    by_cases true e c f = (let low : nat_lt (suc p) (n + 1) ≡ true = grind (arith, nat_tests) in rw (e, low) refl)
    by_cases false e true f =
        let high : nat_lt (suc p) (n + 1) ≡ false = grind (arith, nat_tests) in
        let same : nat_eq (suc p) (n + 1) ≡ true = grind (arith, nat_tests) in
        rw (e, f, high, same) (sym (sym (lift-suc (lift_term n 0 a)) ∙ lift-again n 1 0 0 a (omega arith) (omega arith)))
    by_cases false e false f =
        let high : nat_lt (suc p) (n + 1) ≡ false = grind (arith, nat_tests) in
        let apart : nat_eq (suc p) (n + 1) ≡ false = grind (arith, nat_tests) in
        let number : suc p - 1 ≡ suc (p - 1) = grind (arith, nat_tests) in
        rw (e, f, high, apart) (ap Bound number)

pub subst-placed : (n : ℕ) (a t : Term) → subst_under n a t ≡ placed (place_at n a) t
subst-placed n a (Const c T) = refl
subst-placed n a (Free x T) = refl
subst-placed n a (Var x i T) = refl
subst-placed n a (Bound p) = refl
subst-placed n a (Abs T b) = ap (Abs T) (subst-placed (n + 1) a b ∙ placed-same (place_at (n + 1) a) (shifted (place_at n a)) (shifted-place n a) b)
subst-placed n a (App f b) = λ l. App (subst-placed n a f l) (subst-placed n a b l)

-- what stands for bound variables, with a term for one more
abbrev pub with_term : Term → (ℕ → Term) → ℕ → Term
with_term a s zero = a
with_term a s (suc p) = s p

abbrev pub with_terms : List Term → (ℕ → Term) → ℕ → Term
with_terms [] s = s
with_terms (a ∷ rest) s = with_terms rest (with_term a s)

contracted-placed : (a : Term) (s : ℕ → Term) (t : Term) → subst_bound (placed (shifted s) t) a ≡ placed (with_term a s) t
contracted-placed a s t = subst-placed 0 a (placed (shifted s) t) ∙ (placed-placed (place_at 0 a) (shifted s) t ∙ placed-same (λ p. placed (place_at 0 a) (shifted s p)) (with_term a s) inner t)
  where
    inner : (p : ℕ) → placed (place_at 0 a) (shifted s p) ≡ with_term a s p
    inner zero = lift-zero 0 a
    inner (suc p) = ap (placed (place_at 0 a)) (sym (lift-suc (s p))) ∙ (sym (subst-placed 0 a (lift_term 1 0 (s p))) ∙ subst-lift 0 a (s p))

pub reduces-applied : (ts : List Term) {f g : Term} → BetaReduces f g → BetaReduces (applied f ts) (applied g ts)
reduces-applied [] r = r
reduces-applied (a ∷ ts) r = reduces-applied ts (reduces-application r BetaReduces.done)

placed-applied : (Ts : List Typ) (ts : List Term) (s : ℕ → Term) (c : Term) → length ts ≡ length Ts → BetaReduces (applied (placed s (below Ts c)) ts) (placed (with_terms ts s) c)
placed-applied [] [] s c e = BetaReduces.done
placed-applied [] (t ∷ ts) s c e = absurd (omega arith)
placed-applied (T ∷ Ts) [] s c e = absurd (omega arith)
placed-applied (T ∷ Ts) (t ∷ ts) s c e =
    let step : BetaReduces (App (Abs T (placed (shifted s) (below Ts c))) t) (placed (with_term t s) (below Ts c)) = BetaReduces.next (BetaStep.contract (sym (contracted-placed t s (below Ts c)))) BetaReduces.done in
    reduces-then (reduces-applied ts step) (placed-applied Ts ts (with_term t s) c (omega arith))

-- Abstractions that are applied to as many arguments reduce to what is below them, with these put in.
pub below-applied : (Ts : List Typ) (ts : List Term) (c : Term) → length ts ≡ length Ts → BetaReduces (applied (below Ts c) ts) (placed (with_terms ts (λ p. Bound p)) c)
below-applied Ts ts c e = subst (λ t. BetaReduces (applied t ts) (placed (with_terms ts (λ p. Bound p)) c)) (placed-bounds (below Ts c)) (placed-applied Ts ts (λ p. Bound p) c e)
