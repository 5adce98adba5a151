-- Loose bound variables, lifting and lowering.
use Rattle.std.proofs.Common.{◌≡◌, ℕ, ◌+◌, ◌<◌, Bool, true, false, ap, refl, ◌∙◌, arith}
use Rattle.std.proofs.lemmas.Bool.Decides.{nat_tests}
use Rattle.std.specs.Prelude.{◌-◌, ◌||◌, nat_eq, nat_lt, if◌then◌else◌}
use Rattle.pure_definitions.specs.Terms.Term.{Term, Const, Free, Var, Bound, Abs, App}
use Rattle.pure_definitions.specs.Terms.Bounds.{lift_term}
use Rattle.pure_definitions.proofs.LiftLaws.{lifted, lift_term-bound}
use Rattle.pure_eta.specs.EtaForm.{is_loose, lower_term}

pub neither : (a b : Bool) → (a || b) ≡ false → (a ≡ false) × (b ≡ false)
neither true b h = absurd (cc)
neither false b h = (refl, h)

-- What is lowered from a place that isn't loose is the term when it is lifted over that place again.
pub lift-lower : (n : ℕ) (t : Term) → is_loose n t ≡ false → lift_term 1 n (lower_term n t) ≡ t
lift-lower n (Const c T) h = refl
lift-lower n (Free x T) h = refl
lift-lower n (Var x i T) h = refl
lift-lower n (Bound p) h = by (nat_lt n p) refl
  where
    by : (b : Bool) → nat_lt n p ≡ b → lift_term 1 n (if b then Bound (p - 1) else Bound p) ≡ Bound p
    by true e =
        let back : lifted 1 n (p - 1) ≡ p = grind (arith, nat_tests) in
        lift_term-bound 1 n (p - 1) ∙ ap Bound back
    by false e =
        let here : lifted 1 n p ≡ p = grind (arith, nat_tests) in
        lift_term-bound 1 n p ∙ ap Bound here
lift-lower n (Abs T b) h = ap (Abs T) (lift-lower (n + 1) b h)
lift-lower n (App f a) h = let parts = neither (is_loose n f) (is_loose n a) h in λ l. App (lift-lower n f parts.0 l) (lift-lower n a parts.1 l)

-- The place over which a term is lifted isn't loose in it.
pub loose-lifted : (n : ℕ) (t : Term) → is_loose n (lift_term 1 n t) ≡ false
loose-lifted n (Const c T) = refl
loose-lifted n (Free x T) = refl
loose-lifted n (Var x i T) = refl
loose-lifted n (Bound p) = ap (is_loose n) (lift_term-bound 1 n p) ∙ apart n p
  where
    apart : (n p : ℕ) → nat_eq (lifted 1 n p) n ≡ false
    apart n p = grind (arith, nat_tests)
loose-lifted n (Abs T b) = loose-lifted (n + 1) b
loose-lifted n (App f a) = rw (loose-lifted n f) (loose-lifted n a)

-- Lifting from above a place leaves it as loose as it was.
pub loose-lift : (by from n : ℕ) (t : Term) → n < from → is_loose n (lift_term by from t) ≡ is_loose n t
loose-lift by from n (Const c T) h = refl
loose-lift by from n (Free x T) h = refl
loose-lift by from n (Var x i T) h = refl
loose-lift by from n (Bound p) h = ap (is_loose n) (lift_term-bound by from p) ∙ same by from n p h
  where
    same : (by from n p : ℕ) → n < from → nat_eq (lifted by from p) n ≡ nat_eq p n
    same by from n p h = grind (arith, nat_tests)
loose-lift by from n (Abs T b) h = loose-lift by (from + 1) (n + 1) b (omega arith)
loose-lift by from n (App f a) h = λ l. loose-lift by from n f h l || loose-lift by from n a h l
