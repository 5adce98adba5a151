-- The schematic variables of a node, gathered along its settings.
use Rattle.std.specs.Prelude.{◌≡◌, ◌≢◌, List, [], ◌∷◌, ◌++◌, map}
use Rattle.pure_text.specs.Lists.{AnyOf}
use Rattle.pure_definitions.specs.Types.Typ.{Typ}
use Rattle.pure_definitions.specs.Terms.Term.{Term}
use Rattle.pure_definitions.specs.Terms.Subst.{term_variable, retyped_variable}
use Rattle.pure_tunify.specs.Settings.{composed}
use Rattle.pure_unify_definitions.specs.Fronts.{variables}
use Rattle.pure_unify_definitions.specs.Node.{Setting, Typs, Single}

-- The variables that settings set and those of their images, behind others; each with its type under all later settings of type variables.
abbrev pub gathered : List Term → List Setting → List Term
gathered vs [] = vs
gathered vs (Typs sets ∷ ss) = gathered (map (retyped_variable (composed sets)) vs) ss
gathered vs (Single b ∷ ss) = gathered (vs ++ term_variable b ∷ variables b.image) ss

-- Another variable comes to the same as v under the map.
abbrev pub IsSameAs : (Typ → Typ) → (v w : Term) → Type 0
IsSameAs typs v w = (v ≢ w) × (retyped_variable typs v ≡ retyped_variable typs w)

-- Some variable of the list does.
abbrev pub HasSame : (Typ → Typ) → (v : Term) → List Term → Type 0
HasSame typs v ws = AnyOf (IsSameAs typs v) ws
