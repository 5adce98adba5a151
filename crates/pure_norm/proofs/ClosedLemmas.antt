-- Terms whose loose bound variables all have binders above them: lifted and instantiated.
use Rattle.std.proofs.Common.{◌≡◌, ℕ, ◌+◌, ◌<◌, ◌≤◌, Bool, true, false, refl, arith}
use Rattle.std.proofs.lemmas.Bool.Decides.{nat_tests}
use Rattle.std.specs.Prelude.{◌-◌, nat_eq, nat_lt, if◌then◌else◌}
use Rattle.pure_definitions.specs.Terms.Term.{Term, Const, Free, Var, Bound, Abs, App}
use Rattle.pure_definitions.specs.Terms.Bounds.{IsClosedUnder, lift_term, place_at, subst_under}
use Rattle.pure_definitions.proofs.LiftLaws.{lift_term-bound}

pub closed-lift : (n by from m : ℕ) (t : Term) → n + by ≤ m → IsClosedUnder n t → IsClosedUnder m (lift_term by from t)
closed-lift n by from m (Const c T) le h = tt
closed-lift n by from m (Free x T) le h = tt
closed-lift n by from m (Var x i T) le h = tt
closed-lift n by from m (Bound p) le h = rw (lift_term-bound by from p) (raised (nat_lt p from))
  where
    raised : (b : Bool) → (if b then p else p + by) < m
    raised true = omega arith
    raised false = omega arith
closed-lift n by from m (Abs T b) le h = closed-lift (n + 1) by (from + 1) (m + 1) b (omega arith) h
closed-lift n by from m (App f a) le h = (closed-lift n by from m f le h.0, closed-lift n by from m a le h.1)

closed-place : (n k m p : ℕ) (arg : Term) → m ≡ n + k → IsClosedUnder k arg → p < m + 1 → IsClosedUnder m (place_at n arg p)
closed-place n k m p arg e h below = choose (nat_lt p n) (nat_eq p n) refl refl
  where
    choose : (b s : Bool) → nat_lt p n ≡ b → nat_eq p n ≡ s → IsClosedUnder m (if b then Bound p else (if s then lift_term n 0 arg else Bound (p - 1)))
    choose true s f g = let small : p < m = grind (arith, nat_tests) in small
    choose false true f g = closed-lift k n 0 m arg (omega arith) h
    choose false false f g = let lower : p - 1 < m = grind (arith, nat_tests) in lower

-- Instantiation takes one binder away.
pub closed-subst : (n k m : ℕ) (arg b : Term) → m ≡ n + k → IsClosedUnder k arg → IsClosedUnder (m + 1) b → IsClosedUnder m (subst_under n arg b)
closed-subst n k m arg (Const c T) e h g = tt
closed-subst n k m arg (Free x T) e h g = tt
closed-subst n k m arg (Var x i T) e h g = tt
closed-subst n k m arg (Bound p) e h g = closed-place n k m p arg e h g
closed-subst n k m arg (Abs T b) e h g = closed-subst (n + 1) k (m + 1) arg b (omega arith) h g
closed-subst n k m arg (App f a) e h g = (closed-subst n k m arg f e h g.0, closed-subst n k m arg a e h g.1)
