-- Two liftings, one after the other, and the instantiation of a lifted bound variable.
use Rattle.std.proofs.Common.{◌≡◌, ℕ, ◌+◌, ◌≤◌, ap, refl, arith}
use Rattle.std.proofs.lemmas.Bool.Decides.{nat_tests}
use Rattle.std.specs.Prelude.{◌-◌, nat_eq, nat_lt, Bool, true, false, if◌then◌else◌}
use Rattle.pure_definitions.specs.Terms.Term.{Term, Const, Free, Var, Bound, Abs, App}
use Rattle.pure_definitions.specs.Terms.Bounds.{lift_term, place_at, subst_under}

-- where a bound variable is lifted to
abbrev pub lifted : (by from p : ℕ) → ℕ
lifted by from p = if nat_lt p from then p else p + by

pub lift_term-bound : (by from p : ℕ) → lift_term by from (Bound p) ≡ Bound (lifted by from p)
lift_term-bound by from p = by_cases (nat_lt p from)
  where
    by_cases : (b : Bool) → (if b then Bound p else Bound (p + by)) ≡ Bound (if b then p else p + by)
    by_cases true = refl
    by_cases false = refl

lifted-lifted : (by also below from p : ℕ) → below ≤ from → lifted also below (lifted by from p) ≡ lifted by (from + also) (lifted also below p)
lifted-lifted by also below from p h = grind (arith, nat_tests)

-- For f at most g, lifting by b from g and then by a from f is lifting by a from f and then by b from g + a.
pub lift-lift : (by more below from : ℕ) (t : Term) → below ≤ from → lift_term more below (lift_term by from t) ≡ lift_term by (from + more) (lift_term more below t)
lift-lift by more below from (Const c T) h = refl
lift-lift by more below from (Free x T) h = refl
lift-lift by more below from (Var x i T) h = refl
lift-lift by more below from (Bound p) h =
    rw (lift_term-bound by from p, lift_term-bound more below p, lift_term-bound more below (lifted by from p), lift_term-bound by (from + more) (lifted more below p))
    (ap Bound (lifted-lifted by more below from p h))
lift-lift by more below from (Abs T b) h =
    let raised : (from + more) + 1 ≡ (from + 1) + more = omega arith in
    rw raised (ap (Abs T) (lift-lift by more (below + 1) (from + 1) b (omega arith)))
lift-lift by more below from (App f a) h = λ l. App (lift-lift by more below from f h l) (lift-lift by more below from a h l)

-- a bound variable that was lifted over one binder, put back
pub place_at-lifted : (n : ℕ) (arg : Term) (p : ℕ) → place_at n arg (lifted 1 n p) ≡ Bound p
place_at-lifted n arg p = by (nat_lt p n) refl
  where
    by : (b : Bool) → nat_lt p n ≡ b → place_at n arg (if nat_lt p n then p else p + 1) ≡ Bound p
    by true e = rw (e, e) refl
    by false e =
        let above : nat_lt (p + 1) n ≡ false = grind (arith, nat_tests) in
        let other : nat_eq (p + 1) n ≡ false = grind (arith, nat_tests) in
        let back : p + 1 - 1 ≡ p = omega arith in
        rw (e, above, other, back) refl

-- Instantiating a lifted bound variable gives the term back.
pub subst-lift : (n : ℕ) (arg t : Term) → subst_under n arg (lift_term 1 n t) ≡ t
subst-lift n arg (Const c T) = refl
subst-lift n arg (Free x T) = refl
subst-lift n arg (Var x i T) = refl
subst-lift n arg (Bound p) = rw (lift_term-bound 1 n p) (place_at-lifted n arg p)
subst-lift n arg (Abs T b) = ap (Abs T) (subst-lift (n + 1) arg b)
subst-lift n arg (App f a) = λ l. App (subst-lift n arg f l) (subst-lift n arg a l)
