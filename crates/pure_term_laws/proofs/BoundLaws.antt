-- Lifting, instantiation and abstraction against one another.
use Rattle.std.proofs.Common.{◌≡◌, ℕ, ◌+◌, ◌≤◌, Bool, true, false, refl, ap, ◌∙◌, arith, inl, inr}
use Rattle.std.proofs.lemmas.Bool.Decides.{nat_tests}
use Rattle.std.specs.Prelude.{◌-◌, nat_eq, nat_lt, if◌then◌else◌}
use Rattle.pure_definitions.specs.Terms.Term.{Term, Const, Free, Var, Bound, Abs, App, term_eq}
use Rattle.pure_definitions.specs.Terms.Bounds.{lift_term, place_at, subst_under, bind_under, Occurs}
use Rattle.pure_definitions.specs.Terms.Conditions.{IsVariable}
use Rattle.pure_definitions.specs.Models.Equality.{term_eq-same}
use Rattle.pure_definitions.proofs.LiftLaws.{lifted, lift_term-bound, place_at-lifted}
use Rattle.pure_definitions.proofs.BindLemmas.{term_eq-other, bind_under-same}

-- Lifting by 0 changes nothing.
pub lift-zero : (from : ℕ) (t : Term) → lift_term 0 from t ≡ t
lift-zero from (Const c T) = refl
lift-zero from (Free x T) = refl
lift-zero from (Var x i T) = refl
lift-zero from (Bound p) = let same : lifted 0 from p ≡ p = grind (arith, nat_tests) in rw (lift_term-bound 0 from p) (ap Bound same)
lift-zero from (Abs T b) = ap (Abs T) (lift-zero (from + 1) b)
lift-zero from (App f a) = λ l. App (lift-zero from f l) (lift-zero from a l)

lifted-again : (by more from middle p : ℕ) → from ≤ middle → middle ≤ from + by → lifted more middle (lifted by from p) ≡ lifted (by + more) from p
lifted-again by more from middle p h k = grind (arith, nat_tests)

-- Lifting again, from a place among the new binders, is lifting by the sum.
pub lift-again : (by more from middle : ℕ) (t : Term) → from ≤ middle → middle ≤ from + by → lift_term more middle (lift_term by from t) ≡ lift_term (by + more) from t
lift-again by more from middle (Const c T) h k = refl
lift-again by more from middle (Free x T) h k = refl
lift-again by more from middle (Var x i T) h k = refl
lift-again by more from middle (Bound p) h k =
    rw (lift_term-bound by from p, lift_term-bound more middle (lifted by from p), lift_term-bound (by + more) from p) (ap Bound (lifted-again by more from middle p h k))
lift-again by more from middle (Abs T b) h k = ap (Abs T) (lift-again by more (from + 1) (middle + 1) b (omega arith) (omega arith))
lift-again by more from middle (App f a) h k = λ l. App (lift-again by more from middle f h k l) (lift-again by more from middle a h k l)

-- A variable has no loose bound variable, and so is lifted to itself.
lift-variable : (by from : ℕ) (v : Term) → IsVariable v → lift_term by from v ≡ v
lift-variable by from (Free x T) is = refl
lift-variable by from (Var x i T) is = refl
lift-variable by from (Const c T) is = absurd is
lift-variable by from (Bound p) is = absurd is
lift-variable by from (Abs T b) is = absurd is
lift-variable by from (App f a) is = absurd is

-- what stands in the place of the argument
place_at-itself : (n : ℕ) (arg : Term) → place_at n arg n ≡ lift_term n 0 arg
place_at-itself n arg =
    let below : nat_lt n n ≡ false = grind (arith, nat_tests) in
    let same : nat_eq n n ≡ true = grind (arith, nat_tests) in
    rw (below, same) refl

pub bind-bound : (n : ℕ) (v : Term) (p : ℕ) → bind_under n v (Bound p) ≡ Bound (lifted 1 n p)
bind-bound n v p = by_cases (nat_lt p n)
  where
    by_cases : (b : Bool) → (if b then Bound p else Bound (p + 1)) ≡ Bound (if b then p else p + 1)
    by_cases true = refl
    by_cases false = refl

-- putting the variable back where it was bound
put_back : (n : ℕ) (v t : Term) → IsVariable v → (b : Bool) → term_eq v t ≡ b → subst_under n v t ≡ t → subst_under n v (if b then Bound n else t) ≡ t
put_back n v t is true e h = place_at-itself n v ∙ (lift-variable n 0 v is ∙ term_eq-same v t e)
put_back n v t is false e h = h

-- Abstraction over a variable and then instantiation with it gives the term back.
pub subst-bind : (n : ℕ) (v t : Term) → IsVariable v → subst_under n v (bind_under n v t) ≡ t
subst-bind n v (Const c T) is = refl
subst-bind n v (Free x T) is = put_back n v (Free x T) is (term_eq v (Free x T)) refl refl
subst-bind n v (Var x i T) is = put_back n v (Var x i T) is (term_eq v (Var x i T)) refl refl
subst-bind n v (Bound p) is = rw (bind-bound n v p) (place_at-lifted n v p)
subst-bind n v (Abs T b) is = ap (Abs T) (subst-bind (n + 1) v b is)
subst-bind n v (App f a) is = λ l. App (subst-bind n v f is l) (subst-bind n v a is l)

-- binding again what was put in
bind_again : (n : ℕ) (v : Term) (p : ℕ) → IsVariable v → bind_under n v (place_at n v p) ≡ Bound p
bind_again n v p is = by (nat_lt p n) (nat_eq p n) refl refl
  where
    by : (b s : Bool) → nat_lt p n ≡ b → nat_eq p n ≡ s → bind_under n v (if b then Bound p else (if s then lift_term n 0 v else Bound (p - 1))) ≡ Bound p
    by true s e f = rw e refl
    by false true e f = let same : p ≡ n = grind (arith, nat_tests) in rw (lift-variable n 0 v is, same) (bind_under-same n v v is refl)
    by false false e f =
        let above : nat_lt (p - 1) n ≡ false = grind (arith, nat_tests) in
        let some : (p - 1) + 1 ≡ p = grind (arith, nat_tests) in
        rw (above, some) refl

-- Instantiation with a variable that doesn't occur, and then abstraction over it, gives the body back.
pub bind-subst : (n : ℕ) (v b : Term) → IsVariable v → ¬ Occurs v b → bind_under n v (subst_under n v b) ≡ b
bind-subst n v (Const c T) is none = refl
bind-subst n v (Free x T) is none = rw (term_eq-other v (Free x T) none) refl
bind-subst n v (Var x i T) is none = rw (term_eq-other v (Var x i T) none) refl
bind-subst n v (Bound p) is none = bind_again n v p is
bind-subst n v (Abs T b) is none = ap (Abs T) (bind-subst (n + 1) v b is (λ h. none (inr h)))
bind-subst n v (App f a) is none = λ l. App (bind-subst n v f is (λ h. none (inr (inl h))) l) (bind-subst n v a is (λ h. none (inr (inr h))) l)
