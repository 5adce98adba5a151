-- Type variables of a type that another lacks, over a list of types; and what a denied test says.
use Rattle.std.proofs.Common.{◌≡◌, ◌↔◌, ℕ, zero, suc, ◌+◌, ◌<◌, List, [], ◌∷◌, Bool, true, false, not, IsTrue, length, get_or, take, refl, sym, subst, inl, inr, true≢false, arith}
use Rattle.std.specs.Prelude.{◌&&◌}
use Rattle.pure_definitions.specs.Types.Typ.{Typ, TFree, TVar, Con, Typs, none, also, typs_of}
use Rattle.pure_definitions.specs.Terms.Measures.{is_ground, are_ground}
use Rattle.pure_certify.specs.Bodies.{HasExtra, HaveExtra}

pub extra-item : (T : Typ) (ts : List Typ) (i : ℕ) (t : Typ) → i < length ts → t ≡ get_or ts i t → HasExtra T t → HaveExtra T (typs_of ts)
extra-item T [] i t h e o = absurd (omega arith)
extra-item T (u ∷ us) zero t h e o = inl (subst (HasExtra T) e o)
extra-item T (u ∷ us) (suc i) t h e o = inr (extra-item T us i t (omega arith) e o)

pub extra-next : (T : Typ) (ts : List Typ) (i : ℕ) (t : Typ) → i < length ts → t ≡ get_or ts i t → (¬ HaveExtra T (typs_of (take i ts))) → (¬ HasExtra T t) → ¬ HaveExtra T (typs_of (take (i + 1) ts))
extra-next T [] i t h e before here o = absurd (omega arith)
extra-next T (u ∷ us) zero t h e before here o = elim o [ inl m ↦ here (subst (HasExtra T) (sym e) m) | inr n ↦ before n ]
extra-next T (u ∷ us) (suc i) t h e before here o =
    let next : suc i + 1 ≡ suc (i + 1) = omega arith in
    let split = rw next at o in
    elim split [ inl m ↦ before (inl m) | inr n ↦ extra-next T us i t (omega arith) e (λ m. before (inr m)) here n ]

left-true : (a b : Bool) → (a && b) ≡ true → a ≡ true
left-true true b e = refl
left-true false b e = e

right-true : (a b : Bool) → (a && b) ≡ true → b ≡ true
right-true true b e = e
right-true false b e = absurd (true≢false (sym e))

-- A type without type variables has none that another lacks.
mutual
  pub ground-lacks : (T U : Typ) → is_ground U ≡ true → ¬ HasExtra T U
  ground-lacks T (TFree x s) e o = absurd (true≢false (sym e))
  ground-lacks T (TVar x i s) e o = absurd (true≢false (sym e))
  ground-lacks T (Con k ts) e o = grounds-lack T ts e o

  grounds-lack : (T : Typ) (ts : Typs) → are_ground ts ≡ true → ¬ HaveExtra T ts
  grounds-lack T none e o = o
  grounds-lack T (also t ts) e (inl here) = ground-lacks T t (left-true (is_ground t) (are_ground ts) e) here
  grounds-lack T (also t ts) e (inr there) = grounds-lack T ts (right-true (is_ground t) (are_ground ts) e) there

-- What a test denies.
pub denied : (P : Type 0) (b : Bool) → IsTrue b ↔ P → IsTrue (not b) ↔ ¬ P
denied P true h = (λ f. absurd (true≢false (sym f)), λ n. absurd (n (h.0 refl)))
denied P false h = (λ t p. true≢false (sym (h.1 p)), λ n. refl)
