-- Abstraction over a variable past liftings and instantiations, and lifting above an instantiation.
use Rattle.std.proofs.Common.{◌≡◌, ℕ, ◌+◌, ◌≤◌, Bool, true, false, refl, ap, sym, ◌∙◌, arith, inl, inr}
use Rattle.std.proofs.lemmas.Bool.Decides.{nat_tests}
use Rattle.std.specs.Prelude.{nat_lt, if◌then◌else◌}
use Rattle.pure_definitions.specs.Terms.Term.{Term, Const, Free, Var, Bound, Abs, App, term_eq}
use Rattle.pure_definitions.specs.Terms.Bounds.{lift_term, place_at, subst_under, bind_under, Occurs}
use Rattle.pure_definitions.specs.Terms.Conditions.{IsVariable}
use Rattle.pure_definitions.specs.Models.Equality.{term_eq-itself}
use Rattle.pure_definitions.proofs.LiftLaws.{lifted, lift_term-bound, lift-lift}
use Rattle.pure_definitions.proofs.BindLemmas.{term_eq-other}
use Rattle.pure_term_laws.proofs.BoundLaws.{bind-bound, lift-again}
use Rattle.pure_term_laws.proofs.MapLaws.{Beside, beside, place-below, place-itself, place-above, not_variable}

-- What was abstracted over doesn't occur any more.
chosen-other : (n : ℕ) (v u : Term) → IsVariable v → ¬ IsVariable (Bound n) → (b : Bool) → term_eq v u ≡ b → ((o : Occurs v u) → v ≡ u) → ¬ Occurs v (if b then Bound n else u)
chosen-other n v u is bound true e only h = not_variable v (Bound n) is h bound
chosen-other n v u is bound false e only h =
    let same : v ≡ u = only h in
    let itself : term_eq u u ≡ true = term_eq-itself u in
    let not : term_eq u u ≡ false = rw same at e in
    cc

raised-other : (p n : ℕ) (v : Term) → IsVariable v → (b : Bool) → ¬ Occurs v (if b then Bound p else Bound (p + 1))
raised-other p n v is true h = not_variable v (Bound p) is h (λ no. no)
raised-other p n v is false h = not_variable v (Bound (p + 1)) is h (λ no. no)

pub not_in-bind : (n : ℕ) (v t : Term) → IsVariable v → ¬ Occurs v (bind_under n v t)
not_in-bind n v (Const c T) is h = not_variable v (Const c T) is h (λ no. no)
not_in-bind n v (Free x T) is h = chosen-other n v (Free x T) is (λ no. no) (term_eq v (Free x T)) refl (λ o. o) h
not_in-bind n v (Var x i T) is h = chosen-other n v (Var x i T) is (λ no. no) (term_eq v (Var x i T)) refl (λ o. o) h
not_in-bind n v (Bound p) is h = raised-other p n v is (nat_lt p n) h
not_in-bind n v (Abs T b) is (inl e) = not_variable v (Abs T (bind_under (n + 1) v b)) is e (λ no. no)
not_in-bind n v (Abs T b) is (inr h) = not_in-bind (n + 1) v b is h
not_in-bind n v (App f a) is (inl e) = not_variable v (App (bind_under n v f) (bind_under n v a)) is e (λ no. no)
not_in-bind n v (App f a) is (inr (inl h)) = not_in-bind n v f is h
not_in-bind n v (App f a) is (inr (inr h)) = not_in-bind n v a is h

-- Abstraction over a variable that doesn't occur is a lifting over one binder.
pub bind-other : (n : ℕ) (v t : Term) → ¬ Occurs v t → bind_under n v t ≡ lift_term 1 n t
bind-other n v (Const c T) none = refl
bind-other n v (Free x T) none = rw (term_eq-other v (Free x T) none) refl
bind-other n v (Var x i T) none = rw (term_eq-other v (Var x i T) none) refl
bind-other n v (Bound p) none = refl
bind-other n v (Abs T b) none = ap (Abs T) (bind-other (n + 1) v b (λ o. none (inr o)))
bind-other n v (App f a) none = λ l. App (bind-other n v f (λ o. none (inr (inl o))) l) (bind-other n v a (λ o. none (inr (inr o))) l)

-- Lifting above the place of an instantiation.
lift-place : (m n k : ℕ) (arg : Term) (p : ℕ) → Beside n p → lift_term m (n + k) (place_at n arg p) ≡ place_at n (lift_term m k arg) (lifted m (n + k + 1) p)
lift-place m n k arg p (inl low) =
    let stays : lifted m (n + k) p ≡ p = grind (arith, nat_tests) in
    let there : lifted m (n + k + 1) p ≡ p = grind (arith, nat_tests) in
    ap (lift_term m (n + k)) (place-below n arg p low) ∙ lift_term-bound m (n + k) p ∙ ap Bound stays
    ∙ sym (ap (place_at n (lift_term m k arg)) there ∙ place-below n (lift_term m k arg) p low)
lift-place m n k arg p (inr (inl e)) =
    let there : lifted m (n + k + 1) n ≡ n = grind (arith, nat_tests) in
    let swapped : n + k ≡ k + n = omega arith in
    rw e (ap (lift_term m (n + k)) (place-itself n arg) ∙ ap (λ from. lift_term m from (lift_term n 0 arg)) swapped ∙ sym (lift-lift m n 0 k arg (omega arith))
    ∙ sym (ap (place_at n (lift_term m k arg)) there ∙ place-itself n (lift_term m k arg)))
lift-place m n k arg p (inr (inr (q, e, high))) =
    let there : lifted m (n + k + 1) (q + 1) ≡ lifted m (n + k) q + 1 = grind (arith, nat_tests) in
    let above : n ≤ lifted m (n + k) q = grind (arith, nat_tests) in
    rw e (ap (lift_term m (n + k)) (place-above n arg q high) ∙ lift_term-bound m (n + k) q
    ∙ sym (ap (place_at n (lift_term m k arg)) there ∙ place-above n (lift_term m k arg) (lifted m (n + k) q) above))

pub lift-past-subst : (m n k : ℕ) (arg t : Term) → lift_term m (n + k) (subst_under n arg t) ≡ subst_under n (lift_term m k arg) (lift_term m (n + k + 1) t)
lift-past-subst m n k arg (Const c T) = refl
lift-past-subst m n k arg (Free x T) = refl
lift-past-subst m n k arg (Var x i T) = refl
lift-past-subst m n k arg (Bound p) = lift-place m n k arg p (beside n p) ∙ sym (ap (subst_under n (lift_term m k arg)) (lift_term-bound m (n + k + 1) p))
lift-past-subst m n k arg (Abs T b) = let raised : n + k + 1 ≡ (n + 1) + k = omega arith in rw raised (ap (Abs T) (lift-past-subst m (n + 1) k arg b))
lift-past-subst m n k arg (App f a) = λ l. App (lift-past-subst m n k arg f l) (lift-past-subst m n k arg a l)

-- a bound variable, lifted and bound
lifted-above : (by n from p : ℕ) → n ≤ from → lifted by (from + 1) (lifted 1 n p) ≡ lifted 1 n (lifted by from p)
lifted-above by n from p h = grind (arith, nat_tests)

lifted-below : (by n from p : ℕ) → from ≤ n → lifted by from (lifted 1 n p) ≡ lifted 1 (n + by) (lifted by from p)
lifted-below by n from p h = grind (arith, nat_tests)

lift-chosen : (by from n m : ℕ) (u : Term) (b : Bool) → lift_term by from (Bound n) ≡ Bound m → lift_term by from u ≡ u
    → lift_term by from (if b then Bound n else u) ≡ (if b then Bound m else u)
lift-chosen by from n m u true e stays = e
lift-chosen by from n m u false e stays = stays

-- Lifting above the place of an abstraction.
pub lift-above-bind : (by n from : ℕ) (v t : Term) → n ≤ from → lift_term by (from + 1) (bind_under n v t) ≡ bind_under n v (lift_term by from t)
lift-above-bind by n from v (Const c T) h = refl
lift-above-bind by n from v (Free x T) h =
    let stays : lifted by (from + 1) n ≡ n = grind (arith, nat_tests) in
    lift-chosen by (from + 1) n n (Free x T) (term_eq v (Free x T)) (lift_term-bound by (from + 1) n ∙ ap Bound stays) refl
lift-above-bind by n from v (Var x i T) h =
    let stays : lifted by (from + 1) n ≡ n = grind (arith, nat_tests) in
    lift-chosen by (from + 1) n n (Var x i T) (term_eq v (Var x i T)) (lift_term-bound by (from + 1) n ∙ ap Bound stays) refl
lift-above-bind by n from v (Bound p) h =
    rw (bind-bound n v p, lift_term-bound by (from + 1) (lifted 1 n p), lift_term-bound by from p, bind-bound n v (lifted by from p)) (ap Bound (lifted-above by n from p h))
lift-above-bind by n from v (Abs T b) h = ap (Abs T) (lift-above-bind by (n + 1) (from + 1) v b (omega arith))
lift-above-bind by n from v (App f a) h = λ l. App (lift-above-bind by n from v f h l) (lift-above-bind by n from v a h l)

-- Lifting from below the place of an abstraction raises the place.
pub lift-below-bind : (by n from : ℕ) (v t : Term) → from ≤ n → lift_term by from (bind_under n v t) ≡ bind_under (n + by) v (lift_term by from t)
lift-below-bind by n from v (Const c T) h = refl
lift-below-bind by n from v (Free x T) h =
    let raised : lifted by from n ≡ n + by = grind (arith, nat_tests) in
    lift-chosen by from n (n + by) (Free x T) (term_eq v (Free x T)) (lift_term-bound by from n ∙ ap Bound raised) refl
lift-below-bind by n from v (Var x i T) h =
    let raised : lifted by from n ≡ n + by = grind (arith, nat_tests) in
    lift-chosen by from n (n + by) (Var x i T) (term_eq v (Var x i T)) (lift_term-bound by from n ∙ ap Bound raised) refl
lift-below-bind by n from v (Bound p) h =
    rw (bind-bound n v p, lift_term-bound by from (lifted 1 n p), lift_term-bound by from p, bind-bound (n + by) v (lifted by from p)) (ap Bound (lifted-below by n from p h))
lift-below-bind by n from v (Abs T b) h = let raised : n + by + 1 ≡ (n + 1) + by = omega arith in rw raised (ap (Abs T) (lift-below-bind by (n + 1) (from + 1) v b (omega arith)))
lift-below-bind by n from v (App f a) h = λ l. App (lift-below-bind by n from v f h l) (lift-below-bind by n from v a h l)

-- Abstraction at or above the place of an instantiation.
bind-place : (n k : ℕ) (v arg : Term) (p : ℕ) → Beside n p → bind_under (n + k) v (place_at n arg p) ≡ place_at n (bind_under k v arg) (lifted 1 (n + k + 1) p)
bind-place n k v arg p (inl low) =
    let stays : lifted 1 (n + k) p ≡ p = grind (arith, nat_tests) in
    let there : lifted 1 (n + k + 1) p ≡ p = grind (arith, nat_tests) in
    ap (bind_under (n + k) v) (place-below n arg p low) ∙ bind-bound (n + k) v p ∙ ap Bound stays
    ∙ sym (ap (place_at n (bind_under k v arg)) there ∙ place-below n (bind_under k v arg) p low)
bind-place n k v arg p (inr (inl e)) =
    let there : lifted 1 (n + k + 1) n ≡ n = grind (arith, nat_tests) in
    let swapped : n + k ≡ k + n = omega arith in
    rw e (ap (bind_under (n + k) v) (place-itself n arg) ∙ ap (λ m. bind_under m v (lift_term n 0 arg)) swapped ∙ sym (lift-below-bind n k 0 v arg (omega arith))
    ∙ sym (ap (place_at n (bind_under k v arg)) there ∙ place-itself n (bind_under k v arg)))
bind-place n k v arg p (inr (inr (q, e, high))) =
    let there : lifted 1 (n + k + 1) (q + 1) ≡ lifted 1 (n + k) q + 1 = grind (arith, nat_tests) in
    let above : n ≤ lifted 1 (n + k) q = grind (arith, nat_tests) in
    rw e (ap (bind_under (n + k) v) (place-above n arg q high) ∙ bind-bound (n + k) v q
    ∙ sym (ap (place_at n (bind_under k v arg)) there ∙ place-above n (bind_under k v arg) (lifted 1 (n + k) q) above))

subst-chosen : (n m : ℕ) (c u : Term) (q : ℕ) (b : Bool) → place_at n c m ≡ Bound q → subst_under n c u ≡ u → (if b then Bound q else u) ≡ subst_under n c (if b then Bound m else u)
subst-chosen n m c u q true e stays = sym e
subst-chosen n m c u q false e stays = sym stays

pub bind-past-subst : (n k : ℕ) (v arg t : Term) → bind_under (n + k) v (subst_under n arg t) ≡ subst_under n (bind_under k v arg) (bind_under (n + k + 1) v t)
bind-past-subst n k v arg (Const c T) = refl
bind-past-subst n k v arg (Free x T) =
    subst-chosen n (n + k + 1) (bind_under k v arg) (Free x T) (n + k) (term_eq v (Free x T)) (place-above n (bind_under k v arg) (n + k) (omega arith)) refl
bind-past-subst n k v arg (Var x i T) =
    subst-chosen n (n + k + 1) (bind_under k v arg) (Var x i T) (n + k) (term_eq v (Var x i T)) (place-above n (bind_under k v arg) (n + k) (omega arith)) refl
bind-past-subst n k v arg (Bound p) = bind-place n k v arg p (beside n p) ∙ sym (ap (subst_under n (bind_under k v arg)) (bind-bound (n + k + 1) v p))
bind-past-subst n k v arg (Abs T b) = let raised : n + k + 1 ≡ (n + 1) + k = omega arith in rw raised (ap (Abs T) (bind-past-subst (n + 1) k v arg b))
bind-past-subst n k v arg (App f a) = λ l. App (bind-past-subst n k v arg f l) (bind-past-subst n k v arg a l)

-- Abstraction below the place of an instantiation with a term in which the variable doesn't occur.
occurs-lifted : (by from : ℕ) (v t : Term) → IsVariable v → Occurs v (lift_term by from t) → Occurs v t
occurs-lifted by from v (Const c T) is o = o
occurs-lifted by from v (Free x T) is o = o
occurs-lifted by from v (Var x i T) is o = o
occurs-lifted by from v (Bound p) is o = not_variable v (Bound (lifted by from p)) is (rw (lift_term-bound by from p) at o) (λ no. no)
occurs-lifted by from v (Abs T b) is (inl e) = not_variable v (Abs T (lift_term by (from + 1) b)) is e (λ no. no)
occurs-lifted by from v (Abs T b) is (inr o) = inr (occurs-lifted by (from + 1) v b is o)
occurs-lifted by from v (App f a) is (inl e) = not_variable v (App (lift_term by from f) (lift_term by from a)) is e (λ no. no)
occurs-lifted by from v (App f a) is (inr (inl o)) = inr (inl (occurs-lifted by from v f is o))
occurs-lifted by from v (App f a) is (inr (inr o)) = inr (inr (occurs-lifted by from v a is o))

bind-place-below : (m k : ℕ) (v arg : Term) (p : ℕ) → IsVariable v → ¬ Occurs v arg → Beside (m + k) p → bind_under m v (place_at (m + k) arg p) ≡ place_at (m + k + 1) arg (lifted 1 m p)
bind-place-below m k v arg p is none (inl low) =
    let under : lifted 1 m p + 1 ≤ m + k + 1 = grind (arith, nat_tests) in
    ap (bind_under m v) (place-below (m + k) arg p low) ∙ bind-bound m v p ∙ sym (place-below (m + k + 1) arg (lifted 1 m p) under)
bind-place-below m k v arg p is none (inr (inl e)) =
    let there : lifted 1 m (m + k) ≡ m + k + 1 = grind (arith, nat_tests) in
    rw e (ap (bind_under m v) (place-itself (m + k) arg) ∙ bind-other m v (lift_term (m + k) 0 arg) (λ o. none (occurs-lifted (m + k) 0 v arg is o))
    ∙ lift-again (m + k) 1 0 m arg (omega arith) (omega arith)
    ∙ sym (ap (place_at (m + k + 1) arg) there ∙ place-itself (m + k + 1) arg))
bind-place-below m k v arg p is none (inr (inr (q, e, high))) =
    let there : lifted 1 m (q + 1) ≡ q + 1 + 1 = grind (arith, nat_tests) in
    let raised : lifted 1 m q ≡ q + 1 = grind (arith, nat_tests) in
    rw e (ap (bind_under m v) (place-above (m + k) arg q high) ∙ bind-bound m v q ∙ ap Bound raised
    ∙ sym (ap (place_at (m + k + 1) arg) there ∙ place-above (m + k + 1) arg (q + 1) (omega arith)))

pub bind-below-subst : (m k : ℕ) (v arg t : Term) → IsVariable v → ¬ Occurs v arg → bind_under m v (subst_under (m + k) arg t) ≡ subst_under (m + k + 1) arg (bind_under m v t)
bind-below-subst m k v arg (Const c T) is none = refl
bind-below-subst m k v arg (Free x T) is none =
    subst-chosen (m + k + 1) m arg (Free x T) m (term_eq v (Free x T)) (place-below (m + k + 1) arg m (omega arith)) refl
bind-below-subst m k v arg (Var x i T) is none =
    subst-chosen (m + k + 1) m arg (Var x i T) m (term_eq v (Var x i T)) (place-below (m + k + 1) arg m (omega arith)) refl
bind-below-subst m k v arg (Bound p) is none = bind-place-below m k v arg p is none (beside (m + k) p) ∙ sym (ap (subst_under (m + k + 1) arg) (bind-bound m v p))
bind-below-subst m k v arg (Abs T b) is none =
    let raised : m + k + 1 ≡ (m + 1) + k = omega arith in rw raised (ap (Abs T) (bind-below-subst (m + 1) k v arg b is none))
bind-below-subst m k v arg (App f a) is none = λ l. App (bind-below-subst m k v arg f is none l) (bind-below-subst m k v arg a is none l)
