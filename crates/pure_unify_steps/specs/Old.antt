-- Types without fresh variables, told at each place.
use Rattle.std.specs.Prelude.{◌≡◌, ℕ, ◌≤◌}
use Rattle.pure_definitions.specs.Types.Typ.{Typ, TFree, TVar, Con, Typs, none, also}

-- No schematic variable of the type has the index for fresh ones and a name at or above `from`.
abbrev mutual
  pub HasNoFresh : (index from : ℕ) → Typ → Type 0
  HasNoFresh index from (TFree x s) = Unit {0}
  HasNoFresh index from (TVar x i s) = i ≡ index → from ≤ x → ⊥
  HasNoFresh index from (Con k ts) = HaveNoFresh index from ts

  pub HaveNoFresh : (index from : ℕ) → Typs → Type 0
  HaveNoFresh index from none = Unit {0}
  HaveNoFresh index from (also t ts) = HasNoFresh index from t × HaveNoFresh index from ts
