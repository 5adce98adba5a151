-- Lists of types, gone over one type after another.
use Rattle.std.proofs.Common.{◌≡◌, ℕ, zero, suc, ◌+◌, ◌<◌, ◌≤◌, List, [], ◌∷◌, length, get_or, take, drop, max, refl, arith, sym, subst, inl, inr, ◌≢◌, ◌↔◌}
use Rattle.std.specs.declared.cmp.Ordering.TheVariants.{Less}
use Rattle.pure_definitions.specs.Types.Typ.{Typ, TFree, TVar, Con, Typs, none, typ_size, typs_size, typ_depth, typs_depth, typs_of}
use Rattle.pure_definitions.specs.Types.Occurs.{OccursInTyp, OccursInTyps}
use Rattle.pure_definitions.specs.Models.Comparison.{typs_cmp}

-- no type of a list is deeper than the list
pub typ_depth-item : (ts : List Typ) (i : ℕ) (t : Typ) → i < length ts → t ≡ get_or ts i t → typ_depth t ≤ typs_depth (typs_of ts)
typ_depth-item [] i t h e = absurd (omega arith)
typ_depth-item (u ∷ us) zero t h e = rw e (omega arith)
typ_depth-item (u ∷ us) (suc i) t h e = omega (arith, typ_depth-item us i t (omega arith) e)

-- nothing is left behind a list's end
pub drop-end : (ts : List Typ) (i : ℕ) → length ts ≤ i → drop i ts ≡ []
drop-end [] zero h = refl
drop-end [] (suc i) h = refl
drop-end (t ∷ ts) zero h = absurd (omega arith)
drop-end (t ∷ ts) (suc i) h = drop-end ts i (omega arith)

-- A list that ends comes before one that goes on.
typs_cmp-none : (us : List Typ) (i : ℕ) → i < length us → typs_cmp none (typs_of (drop i us)) ≡ Less
typs_cmp-none [] i h = absurd (omega arith)
typs_cmp-none (u ∷ us) zero h = refl
typs_cmp-none (u ∷ us) (suc i) h = typs_cmp-none us i (omega arith)

pub typs_cmp-shorter : (ts us : List Typ) (i : ℕ) → length ts ≤ i → i < length us → typs_cmp (typs_of (drop i ts)) (typs_of (drop i us)) ≡ Less
typs_cmp-shorter ts us i h k = rw (drop-end ts i h) (typs_cmp-none us i k)

-- The size and the depth of a list's beginning, one type further.
pub typs_size-take : (ts : List Typ) (i : ℕ) (t : Typ) → i < length ts → t ≡ get_or ts i t → typs_size (typs_of (take (i + 1) ts)) ≡ typs_size (typs_of (take i ts)) + typ_size t
typs_size-take [] i t h e = absurd (omega arith)
typs_size-take (u ∷ us) zero t h e = rw e (omega arith)
typs_size-take (u ∷ us) (suc i) t h e =
    let next : suc i + 1 ≡ suc (i + 1) = omega arith in
    let rest = typs_size-take us i t (omega arith) e in
    rw next (omega (arith, rest))

pub typs_depth-take : (ts : List Typ) (i : ℕ) (t : Typ) → i < length ts → t ≡ get_or ts i t → typs_depth (typs_of (take (i + 1) ts)) ≡ max (typs_depth (typs_of (take i ts))) (typ_depth t)
typs_depth-take [] i t h e = absurd (omega arith)
typs_depth-take (u ∷ us) zero t h e = rw e (omega arith)
typs_depth-take (u ∷ us) (suc i) t h e =
    let next : suc i + 1 ≡ suc (i + 1) = omega arith in
    let rest = typs_depth-take us i t (omega arith) e in
    rw next (omega (arith, rest))

-- A list's beginning is no larger than the list.
pub typs_size-take-le : (ts : List Typ) (i : ℕ) → typs_size (typs_of (take i ts)) ≤ typs_size (typs_of ts)
typs_size-take-le [] zero = omega arith
typs_size-take-le [] (suc i) = omega arith
typs_size-take-le (t ∷ ts) zero = omega arith
typs_size-take-le (t ∷ ts) (suc i) = omega (arith, typs_size-take-le ts i)

pub typs_depth-take-le : (ts : List Typ) (i : ℕ) → typs_depth (typs_of (take i ts)) ≤ typs_depth (typs_of ts)
typs_depth-take-le [] zero = omega arith
typs_depth-take-le [] (suc i) = omega arith
typs_depth-take-le (t ∷ ts) zero = omega arith
typs_depth-take-le (t ∷ ts) (suc i) = omega (arith, typs_depth-take-le ts i)

-- A type has a node.
pub typ_size-some : (T : Typ) → 0 < typ_size T
typ_size-some (TFree x s) = omega arith
typ_size-some (TVar x i s) = omega arith
typ_size-some (Con k ts) = omega arith

pub typ_depth-some : (T : Typ) → 0 < typ_depth T
typ_depth-some (TFree x s) = omega arith
typ_depth-some (TVar x i s) = omega arith
typ_depth-some (Con k ts) = omega arith

-- A type occurs in itself, and in a list where it occurs in a type of the list.
pub occurs-itself : (v t : Typ) → v ≡ t → OccursInTyp v t
occurs-itself v (TFree x s) e = e
occurs-itself v (TVar x i s) e = e
occurs-itself v (Con k ts) e = inl e

pub occurs-con : (v t : Typ) (k : ℕ) (ts : Typs) → t ≡ Con k ts → (v ≢ t) → OccursInTyp v t ↔ OccursInTyps v ts
occurs-con v t k ts e other = rw e (λ o. elim o [ inl same ↦ absurd (other (rw e same)) | inr inside ↦ inside ], λ inside. inr inside)

pub occurs-item : (v : Typ) (ts : List Typ) (i : ℕ) (t : Typ) → i < length ts → t ≡ get_or ts i t → OccursInTyp v t → OccursInTyps v (typs_of ts)
occurs-item v [] i t h e o = absurd (omega arith)
occurs-item v (u ∷ us) zero t h e o = inl (subst (OccursInTyp v) e o)
occurs-item v (u ∷ us) (suc i) t h e o = inr (occurs-item v us i t (omega arith) e o)

pub occurs-next : (v : Typ) (ts : List Typ) (i : ℕ) (t : Typ) → i < length ts → t ≡ get_or ts i t → (¬ OccursInTyps v (typs_of (take i ts))) → (¬ OccursInTyp v t)
    → ¬ OccursInTyps v (typs_of (take (i + 1) ts))
occurs-next v [] i t h e before here o = absurd (omega arith)
occurs-next v (u ∷ us) zero t h e before here o = elim o [ inl m ↦ here (subst (OccursInTyp v) (sym e) m) | inr n ↦ before n ]
occurs-next v (u ∷ us) (suc i) t h e before here o =
    let next : suc i + 1 ≡ suc (i + 1) = omega arith in
    let split = rw next at o in
    elim split [ inl m ↦ before (inl m) | inr n ↦ occurs-next v us i t (omega arith) e (λ m. before (inr m)) here n ]
