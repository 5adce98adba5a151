-- Instantiation past liftings and instantiations, and maps past liftings, instantiations and abstractions.
use Rattle.std.proofs.Common.{◌≡◌, ◌≢◌, ◌⊎◌, ℕ, zero, suc, ◌+◌, ◌≤◌, Bool, true, false, refl, ap, sym, ◌∙◌, arith, inl, inr}
use Rattle.std.proofs.lemmas.Bool.Decides.{nat_tests}
use Rattle.std.specs.Prelude.{◌-◌, max, nat_eq, nat_lt, if◌then◌else◌}
use Rattle.pure_definitions.specs.Types.Typ.{Typ, TFree, TVar, Con, Typs, none, also, typs_count, typ_depth}
use Rattle.pure_definitions.specs.Terms.Term.{Term, Const, Free, Var, Bound, Abs, App, term_eq, term_size, term_depth}
use Rattle.pure_definitions.specs.Terms.Bounds.{IsClosedUnder, IsClosed, lift_term, place_at, subst_under, bind_under, Occurs}
use Rattle.pure_definitions.specs.Terms.Conditions.{IsVariable}
use Rattle.pure_definitions.specs.Terms.Subst.{typ_instance, typs_instance, term_instance}
use Rattle.pure_definitions.specs.Models.Equality.{term_eq-same, term_eq-itself}
use Rattle.pure_term_laws.specs.LawsMaps.{AreImagesClosed, SendsAlone, sent, SendsAloneExample}
use Rattle.pure_term_laws.specs.LawsExamples.{p, x, y, z}
use Rattle.pure_definitions.proofs.LiftLaws.{lifted, lift_term-bound, subst-lift}
use Rattle.pure_term_laws.proofs.BoundLaws.{lift-again}
use Rattle.pure_definitions.proofs.TermLemmas.{term_size-some, term_depth-some}
use Rattle.pure_definitions.proofs.BindLemmas.{term_eq-other, bind_under-same, bind_under-other}
use Rattle.pure_term_laws.proofs.TypingLaws.{lift-closed_under}

pub place-below : (n : ℕ) (c : Term) (p : ℕ) → p + 1 ≤ n → place_at n c p ≡ Bound p
place-below n c p h = let e : nat_lt p n ≡ true = grind (arith, nat_tests) in rw e refl

pub place-itself : (n : ℕ) (c : Term) → place_at n c n ≡ lift_term n 0 c
place-itself n c =
    let e : nat_lt n n ≡ false = grind (arith, nat_tests) in
    let f : nat_eq n n ≡ true = grind (arith, nat_tests) in
    rw (e, f) refl

pub place-above : (n : ℕ) (c : Term) (p : ℕ) → n ≤ p → place_at n c (p + 1) ≡ Bound p
place-above n c p h =
    let e : nat_lt (p + 1) n ≡ false = grind (arith, nat_tests) in
    let f : nat_eq (p + 1) n ≡ false = grind (arith, nat_tests) in
    let back : p + 1 - 1 ≡ p = omega arith in
    rw (e, f, back) refl

-- A place is below n, or n, or one above some place that isn't below it.
abbrev pub Beside : (n p : ℕ) → Type 0
Beside n p = (p + 1 ≤ n) ⊎ ((p ≡ n) ⊎ ((q : ℕ) × (p ≡ q + 1) × (n ≤ q)))

beside-suc : (n p : ℕ) → Beside n p → Beside (suc n) (suc p)
beside-suc n p (inl h) = inl (omega arith)
beside-suc n p (inr (inl e)) = inr (inl (omega arith))
beside-suc n p (inr (inr (q, e, h))) = inr (inr (suc q, omega arith, omega arith))

pub beside : (n p : ℕ) → Beside n p
beside zero zero = inr (inl refl)
beside zero (suc p) = inr (inr (p, omega arith, omega arith))
beside (suc n) zero = inl (omega arith)
beside (suc n) (suc p) = beside-suc n p (beside n p)

past-lift-bound : (n m k : ℕ) (c : Term) (p : ℕ) → k ≤ n → Beside n p → place_at (n + m) c (lifted m k p) ≡ lift_term m k (place_at n c p)
past-lift-bound n m k c p h (inl low) =
    let under : lifted m k p + 1 ≤ n + m = grind (arith, nat_tests) in
    place-below (n + m) c (lifted m k p) under ∙ sym (ap (lift_term m k) (place-below n c p low) ∙ lift_term-bound m k p)
past-lift-bound n m k c p h (inr (inl e)) =
    let there : lifted m k p ≡ n + m = grind (arith, nat_tests) in
    rw there (rw e (place-itself (n + m) c ∙ sym (ap (lift_term m k) (place-itself n c) ∙ lift-again n m 0 k c (omega arith) (omega arith))))
past-lift-bound n m k c p h (inr (inr (q, e, high))) =
    let raised : lifted m k p ≡ (q + m) + 1 = grind (arith, nat_tests) in
    let behind : lifted m k q ≡ q + m = grind (arith, nat_tests) in
    rw raised (place-above (n + m) c (q + m) (omega arith))
    ∙ sym (rw e (ap (lift_term m k) (place-above n c q high)) ∙ (lift_term-bound m k q ∙ ap Bound behind))

-- Instantiation past a lifting over m binders, k of them the term's own.
pub subst-past-lift : (n m k : ℕ) (c b : Term) → k ≤ n → subst_under (n + m) c (lift_term m k b) ≡ lift_term m k (subst_under n c b)
subst-past-lift n m k c (Const d T) h = refl
subst-past-lift n m k c (Free x T) h = refl
subst-past-lift n m k c (Var x i T) h = refl
subst-past-lift n m k c (Bound p) h = ap (subst_under (n + m) c) (lift_term-bound m k p) ∙ past-lift-bound n m k c p h (beside n p)
subst-past-lift n m k c (Abs T b) h = let raised : (n + m) + 1 ≡ (n + 1) + m = omega arith in rw raised (ap (Abs T) (subst-past-lift (n + 1) m (k + 1) c b (omega arith)))
subst-past-lift n m k c (App f a) h = λ l. App (subst-past-lift n m k c f h l) (subst-past-lift n m k c a h l)

-- a bound variable above the place m, behind the first instantiation
past-subst-above : (m n : ℕ) (b c : Term) (q : ℕ) → m ≤ q → Beside (m + n) q → place_at (m + n) c q ≡ subst_under m (subst_under n c b) (place_at (m + n + 1) c (q + 1))
past-subst-above m n b c q h (inl low) =
    place-below (m + n) c q low ∙ sym (ap (subst_under m (subst_under n c b)) (place-below (m + n + 1) c (q + 1) (omega arith)) ∙ place-above m (subst_under n c b) q h)
past-subst-above m n b c q h (inr (inl e)) =
    let twice : lift_term 1 m (lift_term (m + n) 0 c) ≡ lift_term (m + n + 1) 0 c = lift-again (m + n) 1 0 m c (omega arith) (omega arith) in
    rw e (place-itself (m + n) c
    ∙ sym (ap (subst_under m (subst_under n c b)) (place-itself (m + n + 1) c ∙ sym twice) ∙ subst-lift m (subst_under n c b) (lift_term (m + n) 0 c)))
past-subst-above m n b c q h (inr (inr (r, e, high))) =
    rw e (place-above (m + n) c r high
    ∙ sym (ap (subst_under m (subst_under n c b)) (place-above (m + n + 1) c (r + 1) (omega arith)) ∙ place-above m (subst_under n c b) r (omega arith)))

past-subst-bound : (m n : ℕ) (b c : Term) (p : ℕ) → Beside m p → subst_under (m + n) c (place_at m b p) ≡ subst_under m (subst_under n c b) (place_at (m + n + 1) c p)
past-subst-bound m n b c p (inl low) =
    (ap (subst_under (m + n) c) (place-below m b p low) ∙ place-below (m + n) c p (omega arith))
    ∙ sym (ap (subst_under m (subst_under n c b)) (place-below (m + n + 1) c p (omega arith)) ∙ place-below m (subst_under n c b) p low)
past-subst-bound m n b c p (inr (inl e)) =
    let swapped : m + n ≡ n + m = omega arith in
    let past : subst_under (m + n) c (lift_term m 0 b) ≡ lift_term m 0 (subst_under n c b) = rw swapped (subst-past-lift n m 0 c b (omega arith)) in
    rw e ((ap (subst_under (m + n) c) (place-itself m b) ∙ past)
    ∙ sym (ap (subst_under m (subst_under n c b)) (place-below (m + n + 1) c m (omega arith)) ∙ place-itself m (subst_under n c b)))
past-subst-bound m n b c p (inr (inr (q, e, high))) =
    rw e (ap (subst_under (m + n) c) (place-above m b q high) ∙ past-subst-above m n b c q high (beside (m + n) q))

-- Instantiation past an instantiation.
pub subst-past-subst : (m n : ℕ) (b c t : Term) → subst_under (m + n) c (subst_under m b t) ≡ subst_under m (subst_under n c b) (subst_under (m + n + 1) c t)
subst-past-subst m n b c (Const d T) = refl
subst-past-subst m n b c (Free x T) = refl
subst-past-subst m n b c (Var x i T) = refl
subst-past-subst m n b c (Bound p) = past-subst-bound m n b c p (beside m p)
subst-past-subst m n b c (Abs T t) = let raised : (m + n) + 1 ≡ (m + 1) + n = omega arith in rw raised (ap (Abs T) (subst-past-subst (m + 1) n b c t))
subst-past-subst m n b c (App f a) = λ l. App (subst-past-subst m n b c f l) (subst-past-subst m n b c a l)

-- An instance of a bound variable is at least as large and as deep as the body.
pub size-le-subst : (n : ℕ) (arg b : Term) → term_size b ≤ term_size (subst_under n arg b)
size-le-subst n arg (Const c T) = omega arith
size-le-subst n arg (Free x T) = omega arith
size-le-subst n arg (Var x i T) = omega arith
size-le-subst n arg (Bound p) = let some = term_size-some (place_at n arg p) in omega arith
size-le-subst n arg (Abs T b) = let inside = size-le-subst (n + 1) arg b in omega arith
size-le-subst n arg (App f a) = let first = size-le-subst n arg f in let second = size-le-subst n arg a in omega arith

max-le : (a b c d : ℕ) → a ≤ c → b ≤ d → max a b ≤ max c d
max-le a b c d h k = omega arith

pub depth-le-subst : (n : ℕ) (arg b : Term) → term_depth b ≤ term_depth (subst_under n arg b)
depth-le-subst n arg (Const c T) = omega arith
depth-le-subst n arg (Free x T) = omega arith
depth-le-subst n arg (Var x i T) = omega arith
depth-le-subst n arg (Bound p) = let some = term_depth-some (place_at n arg p) in omega arith
depth-le-subst n arg (Abs T b) =
    let inside = max-le (typ_depth T) (term_depth b) (typ_depth T) (term_depth (subst_under (n + 1) arg b)) (omega arith) (depth-le-subst (n + 1) arg b) in omega arith
depth-le-subst n arg (App f a) =
    let inside = max-le (term_depth f) (term_depth a) (term_depth (subst_under n arg f)) (term_depth (subst_under n arg a)) (depth-le-subst n arg f) (depth-le-subst n arg a) in omega arith

-- A term without loose bound variables above k isn't touched at n, from k on.
subst-closed_under : (n k : ℕ) (arg t : Term) → k ≤ n → IsClosedUnder k t → subst_under n arg t ≡ t
subst-closed_under n k arg (Const c T) h is = refl
subst-closed_under n k arg (Free x T) h is = refl
subst-closed_under n k arg (Var x i T) h is = refl
subst-closed_under n k arg (Bound p) h is = place-below n arg p (omega arith)
subst-closed_under n k arg (Abs T b) h is = ap (Abs T) (subst-closed_under (n + 1) (k + 1) arg b (omega arith) is)
subst-closed_under n k arg (App f a) h is = λ l. App (subst-closed_under n k arg f h is.0 l) (subst-closed_under n k arg a h is.1 l)

bind-fresh : (n k : ℕ) (w t : Term) → k ≤ n → IsClosedUnder k t → ¬ Occurs w t → bind_under n w t ≡ t
bind-fresh n k w (Const c T) h is fresh = refl
bind-fresh n k w (Free x T) h is fresh = rw (term_eq-other w (Free x T) fresh) refl
bind-fresh n k w (Var x i T) h is fresh = rw (term_eq-other w (Var x i T) fresh) refl
bind-fresh n k w (Bound p) h is fresh = let e : nat_lt p n ≡ true = grind (arith, nat_tests) in rw e refl
bind-fresh n k w (Abs T b) h is fresh = ap (Abs T) (bind-fresh (n + 1) (k + 1) w b (omega arith) is (λ o. fresh (inr o)))
bind-fresh n k w (App f a) h is fresh = λ l. App (bind-fresh n k w f h is.0 (λ o. fresh (inr (inl o))) l) (bind-fresh n k w a h is.1 (λ o. fresh (inr (inr o))) l)

pub typs_count-instance : (typs : Typ → Typ) (ts : Typs) → typs_count (typs_instance typs ts) ≡ typs_count ts
typs_count-instance typs none = refl
typs_count-instance typs (also t ts) = ap (λ n. 1 + n) (typs_count-instance typs ts)

-- Type maps one after the other are one map.
mutual
  pub typ_instance-again : (typs more : Typ → Typ) (T : Typ) → typ_instance more (typ_instance typs T) ≡ typ_instance (λ v. typ_instance more (typs v)) T
  typ_instance-again typs more (TFree x s) = refl
  typ_instance-again typs more (TVar x i s) = refl
  typ_instance-again typs more (Con k ts) = ap (Con k) (typs_instance-again typs more ts)

  typs_instance-again : (typs more : Typ → Typ) (ts : Typs) → typs_instance more (typs_instance typs ts) ≡ typs_instance (λ v. typ_instance more (typs v)) ts
  typs_instance-again typs more none = refl
  typs_instance-again typs more (also t ts) = λ l. also (typ_instance-again typs more t l) (typs_instance-again typs more ts l)

-- Maps one after the other are one map.
pub instance-instance : (typs more_typs : Typ → Typ) (terms more_terms : Term → Term) (t : Term)
    → term_instance more_typs more_terms (term_instance typs terms t) ≡ term_instance (λ v. typ_instance more_typs (typs v)) (λ v. term_instance more_typs more_terms (terms v)) t
instance-instance typs more_typs terms more_terms (Const c T) = ap (Const c) (typ_instance-again typs more_typs T)
instance-instance typs more_typs terms more_terms (Free x T) = refl
instance-instance typs more_typs terms more_terms (Var x i T) = refl
instance-instance typs more_typs terms more_terms (Bound p) = refl
instance-instance typs more_typs terms more_terms (Abs T b) = λ l. Abs (typ_instance-again typs more_typs T l) (instance-instance typs more_typs terms more_terms b l)
instance-instance typs more_typs terms more_terms (App f a) = λ l. App (instance-instance typs more_typs terms more_terms f l) (instance-instance typs more_typs terms more_terms a l)

module _ (typs : Typ → Typ) (terms : Term → Term) (closed : AreImagesClosed terms) where
  -- Maps past a lifting.
  pub instance-lift : (by from : ℕ) (t : Term) → term_instance typs terms (lift_term by from t) ≡ lift_term by from (term_instance typs terms t)
  instance-lift by from (Const c T) = refl
  instance-lift by from (Free x T) = sym (lift-closed_under by from 0 (terms (Free x T)) (omega arith) (closed.fixed x T))
  instance-lift by from (Var x i T) = sym (lift-closed_under by from 0 (terms (Var x i T)) (omega arith) (closed.schematic x i T))
  instance-lift by from (Bound p) = ap (term_instance typs terms) (lift_term-bound by from p) ∙ sym (lift_term-bound by from p)
  instance-lift by from (Abs T b) = ap (Abs (typ_instance typs T)) (instance-lift by (from + 1) b)
  instance-lift by from (App f a) = λ l. App (instance-lift by from f l) (instance-lift by from a l)

  subst-bound : (n : ℕ) (arg : Term) (p : ℕ) → Beside n p → term_instance typs terms (place_at n arg p) ≡ place_at n (term_instance typs terms arg) p
  subst-bound n arg p (inl low) = ap (term_instance typs terms) (place-below n arg p low) ∙ sym (place-below n (term_instance typs terms arg) p low)
  subst-bound n arg p (inr (inl e)) =
      rw e ((ap (term_instance typs terms) (place-itself n arg) ∙ instance-lift n 0 arg) ∙ sym (place-itself n (term_instance typs terms arg)))
  subst-bound n arg p (inr (inr (q, e, high))) =
      rw e (ap (term_instance typs terms) (place-above n arg q high) ∙ sym (place-above n (term_instance typs terms arg) q high))

  -- Maps past an instantiation.
  pub instance-subst : (n : ℕ) (arg b : Term) → term_instance typs terms (subst_under n arg b) ≡ subst_under n (term_instance typs terms arg) (term_instance typs terms b)
  instance-subst n arg (Const c T) = refl
  instance-subst n arg (Free x T) = sym (subst-closed_under n 0 (term_instance typs terms arg) (terms (Free x T)) (omega arith) (closed.fixed x T))
  instance-subst n arg (Var x i T) = sym (subst-closed_under n 0 (term_instance typs terms arg) (terms (Var x i T)) (omega arith) (closed.schematic x i T))
  instance-subst n arg (Bound p) = subst-bound n arg p (beside n p)
  instance-subst n arg (Abs T b) = ap (Abs (typ_instance typs T)) (instance-subst (n + 1) arg b)
  instance-subst n arg (App f a) = λ l. App (instance-subst n arg f l) (instance-subst n arg a l)

  module _ (v w : Term) (image : terms v ≡ w) (variable : IsVariable w) where
    bind-chosen : (n : ℕ) (u : Term) → IsVariable u → (v ≢ u → ¬ Occurs w (terms u)) → IsClosed (terms u) → term_instance typs terms u ≡ terms u → (b : Bool) → term_eq v u ≡ b
        → term_instance typs terms (bind_under n v u) ≡ bind_under n w (terms u)
    bind-chosen n u is fresh whole e true t =
        let same : v ≡ u = term_eq-same v u t in
        ap (term_instance typs terms) (bind_under-same n v u is same)
        ∙ sym (ap (bind_under n w) (ap terms (sym same) ∙ image) ∙ bind_under-same n w w variable refl)
    bind-chosen n u is fresh whole e false t =
        let other : v ≢ u = λ s. (let itself : term_eq u u ≡ true = term_eq-itself u in let not : term_eq u u ≡ false = rw s at t in cc) in
        (ap (term_instance typs terms) (bind_under-other n v u is other) ∙ e) ∙ sym (bind-fresh n 0 w (terms u) (omega arith) whole (fresh other))

    bind-sent : (n : ℕ) (t : Term) → ((u : Term) → IsVariable u → Occurs u t → v ≢ u → ¬ Occurs w (terms u))
        → term_instance typs terms (bind_under n v t) ≡ bind_under n w (term_instance typs terms t)
    bind-sent n (Const c T) others = refl
    bind-sent n (Free x T) others = bind-chosen n (Free x T) tt (others (Free x T) tt refl) (closed.fixed x T) refl (term_eq v (Free x T)) refl
    bind-sent n (Var x i T) others = bind-chosen n (Var x i T) tt (others (Var x i T) tt refl) (closed.schematic x i T) refl (term_eq v (Var x i T)) refl
    bind-sent n (Bound p) others = by_cases (nat_lt p n)
      where
        by_cases : (b : Bool) → term_instance typs terms (if b then Bound p else Bound (p + 1)) ≡ (if b then Bound p else Bound (p + 1))
        by_cases true = refl
        by_cases false = refl
    bind-sent n (Abs T b) others = ap (Abs (typ_instance typs T)) (bind-sent (n + 1) b (λ u is o. others u is (inr o)))
    bind-sent n (App f a) others = λ l. App (bind-sent n f (λ u is o. others u is (inr (inl o))) l) (bind-sent n a (λ u is o. others u is (inr (inr o))) l)

  -- Maps past an abstraction.
  pub instance-bind : (v w t : Term) → SendsAlone terms v w t → (n : ℕ) → term_instance typs terms (bind_under n v t) ≡ bind_under n w (term_instance typs terms t)
  instance-bind v w t sends n = bind-sent v w sends.image sends.image_variable n t sends.others

-- Maps that agree on the variables of a term give one instance.
pub instances-agree : (typs : Typ → Typ) (terms others : Term → Term) (t : Term) → ((u : Term) → IsVariable u → Occurs u t → terms u ≡ others u)
    → term_instance typs terms t ≡ term_instance typs others t
instances-agree typs terms others (Const c T) same = refl
instances-agree typs terms others (Free x T) same = same (Free x T) tt refl
instances-agree typs terms others (Var x i T) same = same (Var x i T) tt refl
instances-agree typs terms others (Bound p) same = refl
instances-agree typs terms others (Abs T b) same = ap (Abs (typ_instance typs T)) (instances-agree typs terms others b (λ u is o. same u is (inr o)))
instances-agree typs terms others (App f a) same =
    λ l. App (instances-agree typs terms others f (λ u is o. same u is (inr (inl o))) l) (instances-agree typs terms others a (λ u is o. same u is (inr (inr o))) l)

-- A variable that doesn't occur may be sent elsewhere.
pub instance-sent_elsewhere : (typs : Typ → Typ) (terms : Term → Term) (v w t : Term) → ¬ Occurs v t → term_instance typs (sent v w terms) t ≡ term_instance typs terms t
instance-sent_elsewhere typs terms v w t absent =
    instances-agree typs (sent v w terms) terms t (λ u is o. (let other : term_eq v u ≡ false = term_eq-other v u (λ e. absent (rw e o)) in rw other refl))

-- what is no variable isn't one
pub not_variable : {A : Type 0} (u t : Term) → IsVariable u → u ≡ t → ¬ IsVariable t → A
not_variable u t is e other = absurd (other (rw (← e) is))

-- What occurs in the image of a variable of the term occurs in the term's instance.
pub occurs_in-instance : (typs : Typ → Typ) (terms : Term → Term) (u w t : Term) → IsVariable u → Occurs u t → Occurs w (terms u) → Occurs w (term_instance typs terms t)
occurs_in-instance typs terms u w (Const c T) is o h = not_variable u (Const c T) is o (λ no. no)
occurs_in-instance typs terms u w (Free x T) is o h = rw (← o) h
occurs_in-instance typs terms u w (Var x i T) is o h = rw (← o) h
occurs_in-instance typs terms u w (Bound p) is o h = not_variable u (Bound p) is o (λ no. no)
occurs_in-instance typs terms u w (Abs T b) is (inl e) h = not_variable u (Abs T b) is e (λ no. no)
occurs_in-instance typs terms u w (Abs T b) is (inr o) h = inr (occurs_in-instance typs terms u w b is o h)
occurs_in-instance typs terms u w (App f a) is (inl e) h = not_variable u (App f a) is e (λ no. no)
occurs_in-instance typs terms u w (App f a) is (inr (inl o)) h = inr (inl (occurs_in-instance typs terms u w f is o h))
occurs_in-instance typs terms u w (App f a) is (inr (inr o)) h = inr (inr (occurs_in-instance typs terms u w a is o h))

-- the variable y is sent to z, which isn't in the term `p x y`, and x stays
pub sent-alone_example : SendsAloneExample
sent-alone_example = (
  record {
    variable = tt;
    image = refl;
    image_variable = tt;
    others = λ u is o other h. let same : sent y z (λ v. v) u ≡ u = rw (term_eq-other y u other) refl in absurd (z_not_there u o (occurs-variable u is (rw same at h)));
  },
  refl,
)
  where
    occurs-variable : (u : Term) → IsVariable u → Occurs z u → z ≡ u
    occurs-variable (Free n T) is o = o
    occurs-variable (Var n k T) is o = o
    occurs-variable (Const n T) is o = absurd is
    occurs-variable (Bound n) is o = absurd is
    occurs-variable (Abs T b) is o = absurd is
    occurs-variable (App f a) is o = absurd is

    apart : (m n : ℕ) → n + 1 ≤ m → m ≡ n → ⊥
    apart m n low e = omega arith

    z_not_there : (u : Term) → Occurs u (App (App p x) y) → z ≡ u → ⊥
    z_not_there u (inl e) h = cc
    z_not_there u (inr (inl (inl e))) h = cc
    z_not_there u (inr (inl (inr (inl e)))) h = cc
    z_not_there u (inr (inl (inr (inr e)))) h = absurd (apart 42 40 (omega arith) (cc))
    z_not_there u (inr (inr e)) h = absurd (apart 42 41 (omega arith) (cc))
