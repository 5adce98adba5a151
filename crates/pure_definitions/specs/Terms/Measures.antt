-- What types and terms keep beside their parts: the greatest index of a schematic variable, the greatest loose bound variable, and whether a type is ground.
use Rattle.std.specs.Prelude.{ℕ, ◌+◌, ◌-◌, max, min, Bool, true, false, ◌&&◌}
use Rattle.pure_definitions.specs.Types.Typ.{Typ, TFree, TVar, Con, Typs, none, also}
use Rattle.pure_definitions.specs.Terms.Term.{Term, Const, Free, Var, Bound, Abs, App}

-- the number, or the greatest that is kept
abbrev pub kept_count : ℕ → ℕ
kept_count n = min n 18446744073709551615

-- one above the greatest index of a schematic variable of a type, of types and of a term, those of types among them; or 0
abbrev mutual
  pub typ_index_above : Typ → ℕ
  typ_index_above (TFree x s) = 0
  typ_index_above (TVar x i s) = i + 1
  typ_index_above (Con k ts) = typs_index_above ts

  pub typs_index_above : Typs → ℕ
  typs_index_above none = 0
  typs_index_above (also t ts) = max (typ_index_above t) (typs_index_above ts)

abbrev pub term_index_above : Term → ℕ
term_index_above (Const c T) = typ_index_above T
term_index_above (Free x T) = typ_index_above T
term_index_above (Var x i T) = max (i + 1) (typ_index_above T)
term_index_above (Bound n) = 0
term_index_above (Abs T b) = max (typ_index_above T) (term_index_above b)
term_index_above (App f a) = max (term_index_above f) (term_index_above a)

-- whether a type, or each type of a list, is without type variables, fixed or schematic
abbrev mutual
  pub is_ground : Typ → Bool
  is_ground (TFree x s) = false
  is_ground (TVar x i s) = false
  is_ground (Con k ts) = are_ground ts

  pub are_ground : Typs → Bool
  are_ground none = true
  are_ground (also t ts) = is_ground t && are_ground ts

-- one above the greatest bound variable that is loose in the term, or 0
abbrev pub loose_above : Term → ℕ
loose_above (Const c T) = 0
loose_above (Free x T) = 0
loose_above (Var x i T) = 0
loose_above (Bound p) = p + 1
loose_above (Abs T b) = loose_above b - 1
loose_above (App f a) = max (loose_above f) (loose_above a)
