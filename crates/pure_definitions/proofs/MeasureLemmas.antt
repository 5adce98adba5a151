-- What the kept measures tell: a part without what is looked for stays as it is.
use Rattle.std.proofs.Common.{◌≡◌, ◌↔◌, ℕ, ◌+◌, ◌-◌, ◌<◌, ◌≤◌, List, [], ◌∷◌, length, get_or, take, zero, suc, max, refl, ap, arith}
use Rattle.std.proofs.lemmas.Bool.Decides.{nat_tests}
use Rattle.std.specs.Prelude.{Bool, true, false, ◌&&◌, nat_lt, nat_eq}
use Rattle.pure_definitions.specs.Types.Typ.{Typ, TFree, TVar, Con, Typs, none, also, typs_of}
use Rattle.pure_definitions.specs.Terms.Term.{Term, Const, Free, Var, Bound, Abs, App}
use Rattle.pure_definitions.specs.Terms.Bounds.{IsClosedUnder, lift_term, place_at, subst_under}
use Rattle.pure_definitions.specs.Terms.Subst.{typ_instance, typs_instance, term_instance, KeepsFixedTyps, KeepsFixedTerms}
use Rattle.pure_definitions.specs.Terms.Measures.{typ_index_above, typs_index_above, term_index_above, is_ground, are_ground, loose_above}

-- One type more of a list.
pub typs_index_above-take : (ts : List Typ) (i : ℕ) (t : Typ) → i < length ts → t ≡ get_or ts i t → typs_index_above (typs_of (take (i + 1) ts)) ≡ max (typs_index_above (typs_of (take i ts))) (typ_index_above t)
typs_index_above-take [] i t h e = absurd (omega arith)
typs_index_above-take (u ∷ us) zero t h e = rw e (omega arith)
typs_index_above-take (u ∷ us) (suc i) t h e =
    let next : suc i + 1 ≡ suc (i + 1) = omega arith in
    let rest = typs_index_above-take us i t (omega arith) e in
    rw next (omega (arith, rest))

both_true : (a : Bool) → (a && true) ≡ a
both_true true = refl
both_true false = refl

both_moved : (a b c : Bool) → (a && (b && c)) ≡ ((a && b) && c)
both_moved true b c = refl
both_moved false b c = refl

pub are_ground-take : (ts : List Typ) (i : ℕ) (t : Typ) → i < length ts → t ≡ get_or ts i t → are_ground (typs_of (take (i + 1) ts)) ≡ (are_ground (typs_of (take i ts)) && is_ground t)
are_ground-take [] i t h e = absurd (omega arith)
are_ground-take (u ∷ us) zero t h e = rw e (both_true (is_ground u))
are_ground-take (u ∷ us) (suc i) t h e =
    let next : suc i + 1 ≡ suc (i + 1) = omega arith in
    let rest = are_ground-take us i t (omega arith) e in
    rw next (rw rest (both_moved (is_ground u) (are_ground (typs_of (take i us))) (is_ground t)))

-- A type without schematic variables stays under a map that leaves fixed variables as they are.
mutual
  pub typ_stays : (image : Typ → Typ) → KeepsFixedTyps image → (T : Typ) → typ_index_above T ≡ 0 → typ_instance image T ≡ T
  typ_stays image fixed (TFree x s) e = fixed x s
  typ_stays image fixed (TVar x i s) e = absurd (omega arith)
  typ_stays image fixed (Con k ts) e = ap (Con k) (typs_stay image fixed ts e)

  pub typs_stay : (image : Typ → Typ) → KeepsFixedTyps image → (ts : Typs) → typs_index_above ts ≡ 0 → typs_instance image ts ≡ ts
  typs_stay image fixed none e = refl
  typs_stay image fixed (also t ts) e = λ l. also (typ_stays image fixed t (omega arith) l) (typs_stay image fixed ts (omega arith) l)

left_true : (a b : Bool) → (a && b) ≡ true → a ≡ true
left_true true b e = refl
left_true false b e = e

right_true : (a b : Bool) → (a && b) ≡ true → b ≡ true
right_true true b e = e
right_true false b e = absurd (cc)

-- A ground type stays under each map.
mutual
  pub ground_stays : (image : Typ → Typ) → (T : Typ) → is_ground T ≡ true → typ_instance image T ≡ T
  ground_stays image (TFree x s) e = absurd (cc)
  ground_stays image (TVar x i s) e = absurd (cc)
  ground_stays image (Con k ts) e = ap (Con k) (grounds_stay image ts e)

  pub grounds_stay : (image : Typ → Typ) → (ts : Typs) → are_ground ts ≡ true → typs_instance image ts ≡ ts
  grounds_stay image none e = refl
  grounds_stay image (also t ts) e = λ l. also (ground_stays image t (left_true (is_ground t) (are_ground ts) e) l) (grounds_stay image ts (right_true (is_ground t) (are_ground ts) e) l)

-- A term without schematic variables, those of types among them, stays under maps that leave fixed variables as they are.
pub term_stays : (typs : Typ → Typ) (terms : Term → Term) → KeepsFixedTyps typs → KeepsFixedTerms typs terms → (t : Term) → term_index_above t ≡ 0 → term_instance typs terms t ≡ t
term_stays typs terms fixed free (Const c T) e = ap (Const c) (typ_stays typs fixed T e)
term_stays typs terms fixed free (Free x T) e = rw free (ap (Free x) (typ_stays typs fixed T e))
term_stays typs terms fixed free (Var x i T) e = absurd (omega arith)
term_stays typs terms fixed free (Bound n) e = refl
term_stays typs terms fixed free (Abs T b) e = λ l. Abs (typ_stays typs fixed T (omega arith) l) (term_stays typs terms fixed free b (omega arith) l)
term_stays typs terms fixed free (App f a) e = λ l. App (term_stays typs terms fixed free f (omega arith) l) (term_stays typs terms fixed free a (omega arith) l)

-- Under n binders the term is closed exactly where no bound variable is loose at n or above.
pub closed_exactly : (n : ℕ) (t : Term) → IsClosedUnder n t ↔ (loose_above t ≤ n)
closed_exactly n (Const c T) = (λ _. omega arith, λ _. tt)
closed_exactly n (Free x T) = (λ _. omega arith, λ _. tt)
closed_exactly n (Var x i T) = (λ _. omega arith, λ _. tt)
closed_exactly n (Bound p) = (λ h. omega arith, λ h. omega arith)
closed_exactly n (Abs T b) = let inside = closed_exactly (n + 1) b in (λ h. let low = inside.0 h in omega arith, λ h. inside.1 (omega arith))
closed_exactly n (App f a) =
    let left = closed_exactly n f in
    let right = closed_exactly n a in
    (λ h. let low = left.0 h.0 in let more = right.0 h.1 in omega arith, λ h. (left.1 (omega arith), right.1 (omega arith)))

-- Lifting changes no term in which nothing is loose at `from` or above.
pub lift_stays : (by from : ℕ) (t : Term) → loose_above t ≤ from → lift_term by from t ≡ t
lift_stays by from (Const c T) h = refl
lift_stays by from (Free x T) h = refl
lift_stays by from (Var x i T) h = refl
lift_stays by from (Bound p) h = let below : nat_lt p from ≡ true = grind (arith, nat_tests) in rw below refl
lift_stays by from (Abs T b) h = ap (Abs T) (lift_stays by (from + 1) b (omega arith))
lift_stays by from (App f a) h = λ l. App (lift_stays by from f (omega arith) l) (lift_stays by from a (omega arith) l)

-- Nor does putting a term for bound variable n.
pub put_stays : (n : ℕ) (arg t : Term) → loose_above t ≤ n → subst_under n arg t ≡ t
put_stays n arg (Const c T) h = refl
put_stays n arg (Free x T) h = refl
put_stays n arg (Var x i T) h = refl
put_stays n arg (Bound p) h = let below : nat_lt p n ≡ true = grind (arith, nat_tests) in rw below refl
put_stays n arg (Abs T b) h = ap (Abs T) (put_stays (n + 1) arg b (omega arith))
put_stays n arg (App f a) h = λ l. App (put_stays n arg f (omega arith) l) (put_stays n arg a (omega arith) l)
