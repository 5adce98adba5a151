-- What the program holds of nodes.
use Rattle.std.specs.Prelude.{◌≡◌, List, [], ◌∷◌}
use Rattle.pure_text.specs.Lists.{EachTwo}
use Rattle.pure_definitions.specs.Terms.Subst.{AreTypeRespecting}
use Rattle.pure_tunify.specs.Working.{IsWrittenInOrder}
use Rattle.pure_logic.specs.Derivable.{Pair}
use Rattle.pure_unify_definitions.specs.Fronts.{pair}
use Rattle.pure_unify_definitions.specs.Node as node
use Rattle.pure_unify_definitions.specs.Node.{Typs, Single, with_setting}
use Rattle.pure_unify_steps.specs.declared.node.Setting.{Setting}
use Rattle.pure_unify_steps.specs.declared.node.Setting.TheVariants.{OfTyps, OfTerm}
use Rattle.pure_unify_steps.specs.declared.node.Path.{Path}
use Rattle.pure_unify_steps.specs.declared.node.Node.{Node}

-- The setting is held as this one: the type variables that it sets, in order, each written with its image under the later ones; or its entry.
abbrev pub IsSetting : Setting → node.Setting → Type 0
IsSetting (OfTyps map) (Typs sets) = IsWrittenInOrder sets map
IsSetting (OfTerm map) (Single bind) = map ≡ bind ∷ []
IsSetting _ _ = ⊥

-- The images of schematic variables have their variables' types.
abbrev pub IsTypedSetting : Setting → Type 0
IsTypedSetting (OfTyps map) = Unit {0}
IsTypedSetting (OfTerm map) = AreTypeRespecting map

-- The path is held as this one.
pub record IsPath (held : Path) (path : node.Path) : Type 0 where
  pub settings : EachTwo IsSetting held.settings.items path.settings
  pub choices : held.choices ≡ path.choices
  pub fresh : held.fresh ≡ path.fresh

-- The node is held as this one.
pub record IsNode (held : Node) (n : node.Node) : Type 0 where
  pub pairs : held.pairs.items ≡ n.pairs
  pub path : IsPath held.path n.path

-- the pair with a setting put into each side
abbrev pub put_in : node.Setting → Pair → Pair
put_in s p = pair (with_setting s p.left) (with_setting s p.right)
