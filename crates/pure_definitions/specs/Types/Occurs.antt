-- Where a type occurs in a type.
use Rattle.std.specs.Prelude.{◌≡◌, ◌⊎◌}
use Rattle.pure_definitions.specs.Types.Typ.{Typ, TFree, TVar, Con, Typs, none, also}

-- Some subtree of the type is v, as it stands.
abbrev mutual
  pub OccursInTyp : (v : Typ) → Typ → Type 0
  OccursInTyp v (TFree x s) = v ≡ TFree x s
  OccursInTyp v (TVar x i s) = v ≡ TVar x i s
  OccursInTyp v (Con k ts) = (v ≡ Con k ts) ⊎ OccursInTyps v ts

  -- the same of one of the types of a list
  pub OccursInTyps : (v : Typ) → Typs → Type 0
  OccursInTyps v none = ⊥
  OccursInTyps v (also t ts) = OccursInTyp v t ⊎ OccursInTyps v ts
