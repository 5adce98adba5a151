-- The schematic variables of a type.
use Rattle.std.specs.Prelude.{List, [], ◌∷◌, ◌++◌}
use Rattle.pure_definitions.specs.Types.Typ.{Typ, TFree, TVar, Con, Typs, none, also}

-- the schematic variables of a type, in order of occurrence
abbrev mutual
  pub schematics : Typ → List Typ
  schematics (TFree x s) = []
  schematics (TVar x i s) = TVar x i s ∷ []
  schematics (Con k ts) = schematics_of ts

  pub schematics_of : Typs → List Typ
  schematics_of none = []
  schematics_of (also t ts) = schematics t ++ schematics_of ts
