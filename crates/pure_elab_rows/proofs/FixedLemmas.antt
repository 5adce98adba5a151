-- Types without schematic type variables.
use Rattle.std.proofs.Common.{◌≡◌, ℕ, List, inl, inr, arith}
use Rattle.pure_definitions.specs.Types.Typ.{Typ, TFree, TVar, Con, Typs, none, also}
use Rattle.pure_definitions.specs.Types.Occurs.{OccursInTyp, OccursInTyps}
use Rattle.pure_definitions.specs.Terms.Measures.{typ_index_above, typs_index_above}
use Rattle.pure_elab.specs.Answers.{IsFixedTyp}

-- Where there is no index of a schematic variable, there is none.
mutual
  none_inside : (x i : ℕ) (s : List ℕ) (T : Typ) → typ_index_above T ≡ 0 → OccursInTyp (TVar x i s) T → ⊥
  none_inside x i s (TFree y r) e o = absurd (cc)
  none_inside x i s (TVar y j r) e o = absurd (omega arith)
  none_inside x i s (Con k ts) e (inl o) = absurd (cc)
  none_inside x i s (Con k ts) e (inr o) = none_among x i s ts e o

  none_among : (x i : ℕ) (s : List ℕ) (ts : Typs) → typs_index_above ts ≡ 0 → OccursInTyps (TVar x i s) ts → ⊥
  none_among x i s none e o = o
  none_among x i s (also t ts) e (inl o) = none_inside x i s t (omega arith) o
  none_among x i s (also t ts) e (inr o) = none_among x i s ts (omega arith) o

pub fixed_by_index : (T : Typ) → typ_index_above T ≡ 0 → IsFixedTyp T
fixed_by_index T e = λ x i s o. none_inside x i s T e o
