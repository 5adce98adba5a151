-- Types (Isabelle/Isar Implementation manual, section 2.1). A sort is a list of names of classes, and stands for their intersection; in certified types the names ascend.
use Rattle.std.specs.Prelude.{◌≢◌, ℕ, ◌+◌, max, Bool, true, false, ◌&&◌, nat_eq, List, [], ◌∷◌}
use Rattle.std.specs.Cmp.Lexicographic.{pointwise}
use Rattle.pure_definitions.specs.Names.{fun_name, prop_name}

-- whether two sorts are the same list of names
abbrev pub sort_eq : List ℕ → List ℕ → Bool
sort_eq = pointwise nat_eq

-- A type is a fixed type variable with its sort, a schematic one with its index and its sort, or a constructor applied to types.
mutual
  pub data Typ : Type 0 where
    TFree : (name : ℕ) → (sort : List ℕ) → Typ
    TVar : (name index : ℕ) → (sort : List ℕ) → Typ
    Con : (name : ℕ) → (args : Typs) → Typ

  -- a list of types
  pub data Typs : Type 0 where
    none : Typs
    also : Typ → Typs → Typs

-- the types of a list, and the list of the types
abbrev pub typs_of : List Typ → Typs
typs_of [] = none
typs_of (t ∷ ts) = also t (typs_of ts)

abbrev pub typ_list : Typs → List Typ
typ_list none = []
typ_list (also t ts) = t ∷ typ_list ts

-- how many types there are
abbrev pub typs_count : Typs → ℕ
typs_count none = 0
typs_count (also t ts) = 1 + typs_count ts

-- the type of functions from one type to another
abbrev pub arrow : Typ → Typ → Typ
arrow domain range = Con fun_name (also domain (also range none))

-- The type isn't one of functions.
abbrev pub IsNoArrow : Typ → Type 0
IsNoArrow t = (domain range : Typ) → t ≢ arrow domain range

-- the type of propositions
abbrev pub prop : Typ
prop = Con prop_name none

-- the count of nodes
abbrev mutual
  pub typ_size : Typ → ℕ
  typ_size (TFree x s) = 1
  typ_size (TVar x i s) = 1
  typ_size (Con k ts) = 1 + typs_size ts

  pub typs_size : Typs → ℕ
  typs_size none = 0
  typs_size (also t ts) = typ_size t + typs_size ts

-- the count of nodes on the longest path from the root
abbrev mutual
  pub typ_depth : Typ → ℕ
  typ_depth (TFree x s) = 1
  typ_depth (TVar x i s) = 1
  typ_depth (Con k ts) = 1 + typs_depth ts

  pub typs_depth : Typs → ℕ
  typs_depth none = 0
  typs_depth (also t ts) = max (typ_depth t) (typs_depth ts)

-- whether two types are the same tree
abbrev mutual
  pub typ_eq : Typ → Typ → Bool
  typ_eq (TFree x s) (TFree y r) = nat_eq x y && sort_eq s r
  typ_eq (TVar x i s) (TVar y j r) = nat_eq x y && (nat_eq i j && sort_eq s r)
  typ_eq (Con k ts) (Con l us) = nat_eq k l && typs_eq ts us
  typ_eq _ _ = false

  pub typs_eq : Typs → Typs → Bool
  typs_eq none none = true
  typs_eq (also t ts) (also u us) = typ_eq t u && typs_eq ts us
  typs_eq _ _ = false
