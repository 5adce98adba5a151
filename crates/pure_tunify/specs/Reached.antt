-- The variables that occur in a type with all set variables replaced, found in types as they stand.
use Rattle.std.specs.Prelude.{List, [], ◌∷◌, ◌++◌, map}
use Rattle.pure_text.specs.Lists.{IsIn, AnyOf}
use Rattle.pure_definitions.specs.Types.Typ.{Typ}
use Rattle.pure_definitions.specs.Types.Occurs.{OccursInTyp}
use Rattle.pure_definitions.specs.Terms.Subst.{TypBind, typ_variable, typ_instance}
use Rattle.pure_term_laws.specs.LawsOccurs.{IsTypVariable}
use Rattle.pure_tunify.specs.Settings.{composed}

-- What occurs in the type with all set variables replaced occurs in one of these types.
abbrev pub Covers : (sets : List TypBind) → Typ → List Typ → Type 0
Covers sets t typs = (v : Typ) → IsTypVariable v → OccursInTyp v (typ_instance (composed sets) t) → AnyOf (OccursInTyp v) typs

-- A variable that isn't set and occurs in one of these types occurs in the type with all set variables replaced.
abbrev pub AreParts : (sets : List TypBind) → Typ → List Typ → Type 0
AreParts sets t typs = (v : Typ) → IsTypVariable v → ¬ IsIn v (map typ_variable sets) → AnyOf (OccursInTyp v) typs → OccursInTyp v (typ_instance (composed sets) t)

-- Both: of the variables that aren't set, just those of the types occur in the type with all set variables replaced.
pub record IsReached (sets : List TypBind) (t : Typ) (typs : List Typ) : Type 0 where
  pub covers : Covers sets t typs
  pub parts : AreParts sets t typs

-- With one setting more, of a variable that wasn't set, the new types are those where the old ones were.
abbrev pub IsReachedBy : TypBind → (old new : List Typ) → Type 0
IsReachedBy b old new = (sets : List TypBind) (t : Typ) → ¬ IsIn (typ_variable b) (map typ_variable sets) → IsReached sets t old → IsReached (sets ++ b ∷ []) t new
