-- A term has one eta-normal form.
use Rattle.std.proofs.Common.{◌≡◌, ◌≢◌, ℕ, ◌+◌, ◌-◌, ◌<◌, Bool, true, false, ap, refl, sym, ◌∙◌, arith}
use Rattle.std.proofs.lemmas.Bool.Decides.{nat_tests}
use Rattle.std.specs.Prelude.{nat_lt, nat_eq}
use Rattle.pure_definitions.specs.Types.Typ.{Typ}
use Rattle.pure_definitions.specs.Terms.Term.{Term, Const, Free, Var, Bound, Abs, App}
use Rattle.pure_definitions.specs.Terms.Bounds.{lift_term, place_at, subst_under}
use Rattle.pure_definitions.specs.Reduction.Eta.{EtaStep, IsEtaNormal}
use Rattle.pure_term_laws.specs.LawsNormal.{OneEtaNormalForm}
use Rattle.pure_definitions.proofs.LiftLaws.{lifted, lift_term-bound, subst-lift}
use Rattle.pure_term_laws.proofs.EtaLaws.{Contracts, constant, fixed, schematic, bound, under, applied, contracted, reduces-contracts}

lift-injective : (t u : Term) → lift_term 1 0 t ≡ lift_term 1 0 u → t ≡ u
lift-injective t u e = sym (subst-lift 0 (Bound 0) t) ∙ ap (subst_under 0 (Bound 0)) e ∙ subst-lift 0 (Bound 0) u

-- Bound variable n isn't loose in the term.
abbrev Skips : ℕ → Term → Type 0
Skips n (Bound p) = p ≢ n
Skips n (Abs T b) = Skips (n + 1) b
Skips n (App f a) = Skips n f × Skips n a
Skips n _ = Unit {0}

skips-lift : (n : ℕ) (t : Term) → Skips n (lift_term 1 n t)
skips-lift n (Const c T) = tt
skips-lift n (Free x T) = tt
skips-lift n (Var x i T) = tt
skips-lift n (Bound p) = rw (lift_term-bound 1 n p) (apart n p)
  where
    apart : (n p : ℕ) → lifted 1 n p ≢ n
    apart n p e = grind (arith, nat_tests)
skips-lift n (Abs T b) = skips-lift (n + 1) b
skips-lift n (App f a) = (skips-lift n f, skips-lift n a)

skips-unlift : (by from n : ℕ) (t : Term) → n < from → Skips n (lift_term by from t) → Skips n t
skips-unlift by from n (Const c T) l h = tt
skips-unlift by from n (Free x T) l h = tt
skips-unlift by from n (Var x i T) l h = tt
skips-unlift by from n (Bound p) l h = apart by from n p l (rw (lift_term-bound by from p) at h)
  where
    apart : (by from n p : ℕ) → n < from → lifted by from p ≢ n → p ≢ n
    apart by from n p l h e = h (grind (arith, nat_tests))
skips-unlift by from n (Abs T b) l h = skips-unlift by (from + 1) (n + 1) b (omega arith) h
skips-unlift by from n (App f a) l h = (skips-unlift by from n f l h.0, skips-unlift by from n a l h.1)

-- A term without bound variable n is lifted over it.
lift-subst : (n : ℕ) (arg t : Term) → Skips n t → t ≡ lift_term 1 n (subst_under n arg t)
lift-subst n arg (Const c T) h = refl
lift-subst n arg (Free x T) h = refl
lift-subst n arg (Var x i T) h = refl
lift-subst n arg (Bound p) h = by (nat_lt p n) refl
  where
    by : (b : Bool) → nat_lt p n ≡ b → Bound p ≡ lift_term 1 n (place_at n arg p)
    by true e = rw (e, e) refl
    by false e =
        let other : nat_eq p n ≡ false = grind (arith, nat_tests) in
        let above : nat_lt (p - 1) n ≡ false = grind (arith, nat_tests) in
        let back : p - 1 + 1 ≡ p = grind (arith, nat_tests) in
        rw (e, other, above, back) refl
lift-subst n arg (Abs T b) h = ap (Abs T) (lift-subst (n + 1) arg b h)
lift-subst n arg (App f a) h = λ l. App (lift-subst n arg f h.0 l) (lift-subst n arg a h.1 l)

lift-is_abstraction : (by from : ℕ) (T : Typ) (c t : Term) → Abs T c ≡ lift_term by from t → (b : Term) × (t ≡ Abs T b) × (c ≡ lift_term by (from + 1) b)
lift-is_abstraction by from T c (Abs U b) e = (b, cc, cc)
lift-is_abstraction by from T c (Bound p) e = let never : Abs T c ≡ Bound (lifted by from p) = e ∙ lift_term-bound by from p in absurd (cc)
lift-is_abstraction by from T c (Const d V) e = absurd (cc)
lift-is_abstraction by from T c (Free x V) e = absurd (cc)
lift-is_abstraction by from T c (Var x i V) e = absurd (cc)
lift-is_abstraction by from T c (App f a) e = absurd (cc)

lift-is_application : (by from : ℕ) (g b t : Term) → App g b ≡ lift_term by from t → (f a : Term) × (t ≡ App f a) × (g ≡ lift_term by from f) × (b ≡ lift_term by from a)
lift-is_application by from g b (App f a) e = (f, a, refl, cc, cc)
lift-is_application by from g b (Bound p) e = let never : App g b ≡ Bound (lifted by from p) = e ∙ lift_term-bound by from p in absurd (cc)
lift-is_application by from g b (Const d V) e = absurd (cc)
lift-is_application by from g b (Free x V) e = absurd (cc)
lift-is_application by from g b (Var x i V) e = absurd (cc)
lift-is_application by from g b (Abs T c) e = absurd (cc)

lift-is_bound_0 : (by from : ℕ) (t : Term) → Bound 0 ≡ lift_term by (from + 1) t → t ≡ Bound 0
lift-is_bound_0 by from (Bound p) e = let places : Bound 0 ≡ Bound (lifted by (from + 1) p) = e ∙ lift_term-bound by (from + 1) p in let same : 0 ≡ lifted by (from + 1) p = cc in ap Bound (at_0 by from p same)
  where
    at_0 : (by from p : ℕ) → 0 ≡ lifted by (from + 1) p → p ≡ 0
    at_0 by from p e = grind (arith, nat_tests)
lift-is_bound_0 by from (Const d V) e = absurd (cc)
lift-is_bound_0 by from (Free x V) e = absurd (cc)
lift-is_bound_0 by from (Var x i V) e = absurd (cc)
lift-is_bound_0 by from (Abs T c) e = absurd (cc)
lift-is_bound_0 by from (App f a) e = absurd (cc)

step_along : (t s u : Term) → t ≡ s → EtaStep s u → EtaStep t u
step_along t s u e h = rw e h

-- Where a lifted term has an eta step, so has the term.
step-unlift : (by from : ℕ) {s w : Term} → EtaStep s w → (t : Term) → s ≡ lift_term by from t → (u : Term) × EtaStep t u
step-unlift by from (EtaStep.contract {T = T} {f = w} {g = g} e) t same =
    let whole = lift-is_abstraction by from T (App g (Bound 0)) t same in
    let parts = lift-is_application by (from + 1) g (Bound 0) whole.0 whole.2 in
    let argument = lift-is_bound_0 by from parts.1 parts.4 in
    let skips : Skips 0 g = rw e (skips-lift 0 w) in
    let free = skips-unlift by (from + 1) 0 parts.0 (omega arith) (rw parts.3 at skips) in
    let step : EtaStep (Abs T (App parts.0 (Bound 0))) (subst_under 0 (Bound 0) parts.0) = EtaStep.contract (lift-subst 0 (Bound 0) parts.0 free) in
    let is : t ≡ Abs T (App parts.0 (Bound 0)) = whole.1 ∙ ap (Abs T) (parts.2 ∙ ap (App parts.0) argument) in
    (subst_under 0 (Bound 0) parts.0, step_along t (Abs T (App parts.0 (Bound 0))) (subst_under 0 (Bound 0) parts.0) is step)
step-unlift by from (EtaStep.body {T = T} {b = b} h) t same =
    let whole = lift-is_abstraction by from T b t same in
    let inside = step-unlift by (from + 1) h whole.0 whole.2 in
    (Abs T inside.0, step_along t (Abs T whole.0) (Abs T inside.0) whole.1 (EtaStep.body inside.1))
step-unlift by from (EtaStep.function {f = f} {a = a} h) t same =
    let whole = lift-is_application by from f a t same in
    let inside = step-unlift by from h whole.0 whole.3 in
    (App inside.0 whole.1, step_along t (App whole.0 whole.1) (App inside.0 whole.1) whole.2 (EtaStep.function inside.1))
step-unlift by from (EtaStep.argument {f = f} {a = a} h) t same =
    let whole = lift-is_application by from f a t same in
    let inside = step-unlift by from h whole.1 whole.4 in
    (App whole.0 inside.0, step_along t (App whole.0 whole.1) (App whole.0 inside.0) whole.2 (EtaStep.argument inside.1))

bound-has_no_step : (n : ℕ) → IsEtaNormal (Bound n)
bound-has_no_step n u h = elim h [ ]

application-normal : (g v : Term) → g ≡ lift_term 1 0 v → IsEtaNormal v → IsEtaNormal (App g (Bound 0))
application-normal g v e n w (EtaStep.function h) = let step = step-unlift 1 0 h v e in n step.0 step.1
application-normal g v e n w (EtaStep.argument h) = bound-has_no_step 0 _ h

normal-once : {t u v : Term} → Contracts t u → Contracts t v → IsEtaNormal u → IsEtaNormal v → u ≡ v
normal-once constant constant n m = refl
normal-once fixed fixed n m = refl
normal-once schematic schematic n m = refl
normal-once bound bound n m = refl
normal-once (under {T = T} h) (under k) n m = ap (Abs T) (normal-once h k (λ w s. n (Abs T w) (EtaStep.body s)) (λ w s. m (Abs T w) (EtaStep.body s)))
normal-once (applied {g = f} {b = a} h k) (applied {g = g} {b = b} h' k') n m =
    let functions = normal-once h h' (λ w s. n (App w a) (EtaStep.function s)) (λ w s. m (App w b) (EtaStep.function s)) in
    let arguments = normal-once k k' (λ w s. n (App f w) (EtaStep.argument s)) (λ w s. m (App g w) (EtaStep.argument s)) in
    λ l. App (functions l) (arguments l)
normal-once {v = v} (under {T = T} {c = c} h) (contracted {g = g} k e) n m =
    let same = normal-once h k (λ w s. n (Abs T w) (EtaStep.body s)) (application-normal g v e m) in
    absurd (n v (rw same (EtaStep.contract e)))
normal-once {u = u} (contracted {g = g} h e) (under {T = T} {c = c} k) n m =
    let same = normal-once h k (application-normal g u e n) (λ w s. m (Abs T w) (EtaStep.body s)) in
    absurd (m u (rw (← same) (EtaStep.contract e)))
normal-once {u = u} {v = v} (contracted {g = g} h e) (contracted {g = g'} k e') n m =
    let same = normal-once h k (application-normal g u e n) (application-normal g' v e' m) in
    let functions : g ≡ g' = cc in
    lift-injective u v (sym e ∙ functions ∙ e')

pub one_eta_normal_form : OneEtaNormalForm
one_eta_normal_form t u v h k = normal-once (reduces-contracts h.reduces) (reduces-contracts k.reduces) h.normal k.normal
