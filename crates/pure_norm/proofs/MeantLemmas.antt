-- What is meant by each kind of term in an environment.
use Rattle.std.proofs.Common.{◌≡◌, ◌∙◌, ◌⊎◌, inl, inr, ℕ, zero, suc, ◌+◌, ◌<◌, ◌≤◌, true, false, refl, ap, sym, arith}
use Rattle.std.proofs.lemmas.Bool.Decides.{nat_tests}
use Rattle.std.specs.Prelude.{◌-◌, nat_lt}
use Rattle.pure_definitions.specs.Types.Typ.{Typ}
use Rattle.pure_definitions.specs.Terms.Term.{Term, Const, Free, Var, Bound, Abs, App, term_size, term_depth}
use Rattle.pure_definitions.specs.Terms.Bounds.{lift_term, subst_under}
use Rattle.pure_definitions.specs.Terms.Measures.{loose_above}
use Rattle.pure_definitions.proofs.LiftLaws.{lift-lift, subst-lift}
use Rattle.pure_definitions.proofs.MeasureLemmas.{lift_stays, put_stays}
use Rattle.pure_definitions.proofs.TermLemmas.{term_size-lift, term_depth-lift}
use Rattle.pure_term_laws.proofs.BoundLaws.{lift-zero, lift-again}
use Rattle.pure_term_laws.proofs.MapLaws.{place-below, place-itself, beside, subst-past-lift, size-le-subst, depth-le-subst}
use Rattle.pure_norm.specs.Env.{Env, Empty, Bind, Under, Raise, meant_under, meant, Stay}
use Rattle.pure_norm.specs.Pieces.{IsLeaf}

leaf-subst : (n : ℕ) (c t : Term) → IsLeaf t → subst_under n c t ≡ t
leaf-subst n c (Const d T) h = refl
leaf-subst n c (Free x T) h = refl
leaf-subst n c (Var x i T) h = refl
leaf-subst n c (Bound p) h = absurd h
leaf-subst n c (Abs T b) h = absurd h
leaf-subst n c (App f a) h = absurd h

leaf-lift : (by n : ℕ) (t : Term) → IsLeaf t → lift_term by n t ≡ t
leaf-lift by n (Const d T) h = refl
leaf-lift by n (Free x T) h = refl
leaf-lift by n (Var x i T) h = refl
leaf-lift by n (Bound p) h = absurd h
leaf-lift by n (Abs T b) h = absurd h
leaf-lift by n (App f a) h = absurd h

-- A constant or a variable means itself.
pub meant-leaf : (n : ℕ) (e : Env) (t : Term) → IsLeaf t → meant_under n e t ≡ t
meant-leaf n Empty t h = refl
meant-leaf n (Bind c i r) t h = ap (subst_under n (meant_under 0 i c)) (meant-leaf (n + 1) r t h) ∙ leaf-subst n (meant_under 0 i c) t h
meant-leaf n (Under r) t h = meant-leaf (n + 1) r t h
meant-leaf n (Raise by r) t h = ap (lift_term by n) (meant-leaf n r t h) ∙ leaf-lift by n t h

-- An abstraction means one, of what its body means there.
pub meant-abs : (n : ℕ) (e : Env) (T : Typ) (b : Term) → meant_under n e (Abs T b) ≡ Abs T (meant_under (n + 1) e b)
meant-abs n Empty T b = refl
meant-abs n (Bind c i r) T b = ap (subst_under n (meant_under 0 i c)) (meant-abs (n + 1) r T b)
meant-abs n (Under r) T b = meant-abs (n + 1) r T b
meant-abs n (Raise by r) T b = ap (lift_term by n) (meant-abs n r T b)

-- An application means one, of what its parts mean.
pub meant-app : (n : ℕ) (e : Env) (f a : Term) → meant_under n e (App f a) ≡ App (meant_under n e f) (meant_under n e a)
meant-app n Empty f a = refl
meant-app n (Bind c i r) f a = ap (subst_under n (meant_under 0 i c)) (meant-app (n + 1) r f a)
meant-app n (Under r) f a = meant-app (n + 1) r f a
meant-app n (Raise by r) f a = ap (lift_term by n) (meant-app n r f a)

lift-below : (by n p : ℕ) → p + 1 ≤ n → lift_term by n (Bound p) ≡ Bound p
lift-below by n p h = let e : nat_lt p n ≡ true = grind (arith, nat_tests) in rw e refl

lift-any : (by p : ℕ) → lift_term by 0 (Bound p) ≡ Bound (p + by)
lift-any by p = let e : nat_lt p 0 ≡ false = grind (arith, nat_tests) in rw e refl

-- A bound variable of the term's own binders means itself.
pub meant-own : (n : ℕ) (e : Env) (p : ℕ) → p + 1 ≤ n → meant_under n e (Bound p) ≡ Bound p
meant-own n Empty p h = refl
meant-own n (Bind c i r) p h = ap (subst_under n (meant_under 0 i c)) (meant-own (n + 1) r p (omega arith)) ∙ place-below n (meant_under 0 i c) p h
meant-own n (Under r) p h = meant-own (n + 1) r p (omega arith)
meant-own n (Raise by r) p h = ap (lift_term by n) (meant-own n r p h) ∙ lift-below by n p h

-- A term lifted over its own binders means what it meant, lifted.
meant-lifted : (k n : ℕ) (e : Env) (t : Term) → meant_under (n + k) e (lift_term k 0 t) ≡ lift_term k 0 (meant_under n e t)
meant-lifted k n Empty t = refl
meant-lifted k n (Bind c i r) t =
    let same : (n + k) + 1 ≡ (n + 1) + k = omega arith in
    let inside = ap (λ (m : ℕ). meant_under m r (lift_term k 0 t)) same ∙ meant-lifted k (n + 1) r t in
    ap (subst_under (n + k) (meant_under 0 i c)) inside ∙ subst-past-lift n k 0 (meant_under 0 i c) (meant_under (n + 1) r t) (omega arith)
meant-lifted k n (Under r) t =
    let same : (n + k) + 1 ≡ (n + 1) + k = omega arith in
    ap (λ (m : ℕ). meant_under m r (lift_term k 0 t)) same ∙ meant-lifted k (n + 1) r t
meant-lifted k n (Raise by r) t = ap (lift_term by (n + k)) (meant-lifted k n r t) ∙ sym (lift-lift by k 0 n (meant_under n r t) (omega arith))

-- Another bound variable means what it means outside, lifted.
pub meant-out : (n : ℕ) (e : Env) (p : ℕ) → meant_under n e (Bound (p + n)) ≡ lift_term n 0 (meant e (Bound p))
meant-out n e p =
    let same : n ≡ 0 + n = omega arith in
    ap (meant_under n e) (sym (lift-any n p)) ∙ (ap (λ (m : ℕ). meant_under m e (lift_term n 0 (Bound p))) same ∙ meant-lifted n 0 e (Bound p))

-- A bound variable is the term's own, or so much further out.
pub side : (n p : ℕ) → (p + 1 ≤ n) ⊎ ((q : ℕ) × (p ≡ q + n))
side n p = choose (beside n p)
  where
    choose : (p + 1 ≤ n) ⊎ ((p ≡ n) ⊎ ((q : ℕ) × (p ≡ q + 1) × (n ≤ q))) → (p + 1 ≤ n) ⊎ ((q : ℕ) × (p ≡ q + n))
    choose (inl h) = inl h
    choose (inr (inl e)) = inr (0, omega arith)
    choose (inr (inr (q, e, h))) = inr (p - n, omega arith)

-- What stands for a bound variable, by the environment's kind, raised.
pub found-raised : (up by all p : ℕ) (r : Env) → all ≡ up + by → lift_term up 0 (meant (Raise by r) (Bound p)) ≡ lift_term all 0 (meant r (Bound p))
found-raised up by all p r e =
    let sum : by + up ≡ all = omega arith in
    lift-again by up 0 0 (meant r (Bound p)) (omega arith) (omega arith) ∙ ap (λ (k : ℕ). lift_term k 0 (meant r (Bound p))) sum

pub found-stays : (up : ℕ) (r : Env) → lift_term up 0 (meant (Under r) (Bound 0)) ≡ Bound up
found-stays up r =
    let sum : 0 + up ≡ up = omega arith in
    ap (lift_term up 0) (meant-own 1 r 0 (omega arith)) ∙ (lift-any up 0 ∙ ap Bound sum)

pub found-under : (up all p : ℕ) (r : Env) → all ≡ up + 1 → 0 < p → lift_term up 0 (meant (Under r) (Bound p)) ≡ lift_term all 0 (meant r (Bound (p - 1)))
found-under up all p r e h =
    let back : p ≡ (p - 1) + 1 = omega arith in
    let sum : 1 + up ≡ all = omega arith in
    ap (λ (q : ℕ). lift_term up 0 (meant_under 1 r (Bound q))) back
    ∙ (ap (lift_term up 0) (meant-out 1 r (p - 1))
    ∙ (lift-again 1 up 0 0 (meant r (Bound (p - 1))) (omega arith) (omega arith) ∙ ap (λ (k : ℕ). lift_term k 0 (meant r (Bound (p - 1)))) sum))

pub bind-itself : (c : Term) (i r : Env) → meant (Bind c i r) (Bound 0) ≡ meant i c
bind-itself c i r = ap (subst_under 0 (meant i c)) (meant-own 1 r 0 (omega arith)) ∙ (place-itself 0 (meant i c) ∙ lift-zero 0 (meant i c))

pub bind-other : (c : Term) (i r : Env) (p : ℕ) → 0 < p → meant (Bind c i r) (Bound p) ≡ meant r (Bound (p - 1))
bind-other c i r p h =
    let back : p ≡ (p - 1) + 1 = omega arith in
    ap (λ (q : ℕ). subst_under 0 (meant i c) (meant_under 1 r (Bound q))) back
    ∙ (ap (subst_under 0 (meant i c)) (meant-out 1 r (p - 1)) ∙ subst-lift 0 (meant i c) (meant r (Bound (p - 1))))

-- What is meant is at least as large and as deep as the term.
pub size-le-meant : (n : ℕ) (e : Env) (t : Term) → term_size t ≤ term_size (meant_under n e t)
size-le-meant n Empty t = omega arith
size-le-meant n (Bind c i r) t =
    let rest = size-le-meant (n + 1) r t in
    let put = size-le-subst n (meant_under 0 i c) (meant_under (n + 1) r t) in
    omega arith
size-le-meant n (Under r) t = size-le-meant (n + 1) r t
size-le-meant n (Raise by r) t = let rest = size-le-meant n r t in let same = term_size-lift by n (meant_under n r t) in omega arith

pub depth-le-meant : (n : ℕ) (e : Env) (t : Term) → term_depth t ≤ term_depth (meant_under n e t)
depth-le-meant n Empty t = omega arith
depth-le-meant n (Bind c i r) t =
    let rest = depth-le-meant (n + 1) r t in
    let put = depth-le-subst n (meant_under 0 i c) (meant_under (n + 1) r t) in
    omega arith
depth-le-meant n (Under r) t = depth-le-meant (n + 1) r t
depth-le-meant n (Raise by r) t = let rest = depth-le-meant n r t in let same = term_depth-lift by n (meant_under n r t) in omega arith

-- A term whose loose bound variables are the own ones means itself.
meant-closed : (n : ℕ) (e : Env) (t : Term) → loose_above t ≤ n → meant_under n e t ≡ t
meant-closed n Empty t h = refl
meant-closed n (Bind c i r) t h = ap (subst_under n (meant_under 0 i c)) (meant-closed (n + 1) r t (omega arith)) ∙ put_stays n (meant_under 0 i c) t h
meant-closed n (Under r) t h = meant-closed (n + 1) r t (omega arith)
meant-closed n (Raise by r) t h = ap (lift_term by n) (meant-closed n r t h) ∙ lift_stays by n t h

-- So does one with further ones whose binders stay.
pub meant-staying : (n k : ℕ) (e : Env) (t : Term) → Stay k e → loose_above t ≤ n + k → meant_under n e t ≡ t
meant-staying n zero e t h low = meant-closed n e t (omega arith)
meant-staying n (suc k) Empty t h low = refl
meant-staying n (suc k) (Bind c i r) t h low = absurd h
meant-staying n (suc k) (Under r) t h low = meant-staying (n + 1) k r t h (omega arith)
meant-staying n (suc k) (Raise by r) t h low = absurd h
