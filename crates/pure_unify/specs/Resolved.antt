-- What the resolution of a path answers.
use Rattle.std.specs.Prelude.{◌≡◌, List, reverse, Result, Ok, Err}
use Rattle.pure_definitions.specs.Types.Typ.{Typ}
use Rattle.pure_definitions.specs.Terms.Subst.{typ_image, typ_instance}
use Rattle.pure_typ.specs.declared.grow.Grow.{Grow}
use Rattle.pure_typ.specs.declared.grow.Grow.TheVariants.{Big, Memory}
use Rattle.pure_logic.specs.Derivable.{Pair}
use Rattle.pure_unify_definitions.specs.Node as node
use Rattle.pure_unify_definitions.specs.Search.{AreImagesWithin, unifier_of}
use Rattle.pure_unify_steps.specs.declared.node.Setting.{Setting}
use Rattle.pure_unify.specs.Later.{typ_later, typ_entries, term_entries, AreEntriesWithin}
use Rattle.pure_unify.specs.declared.resolve.Later.{Later}
use Rattle.pure_unify.specs.declared.unifier.Unifier.{Unifier}
use Rattle.pure_unify.specs.Unified.{seen}

-- The entries of the settings, the last first; their images are within the limits, and the type map is what the settings make of types.
pub record IsLater (settings : List Setting) (later : Later) : Type 0 where
  pub typs : later.typs ≡ reverse (typ_entries settings)
  pub terms : later.terms.items ≡ reverse (term_entries settings)
  pub within : AreEntriesWithin settings
  pub image : (T : Typ) → typ_later settings T ≡ typ_instance (typ_image later.typs) T

-- These entries; or `Big` where an image isn't within the limits; or `Memory`.
abbrev pub IsLaterAnswer : List Setting → Result Later Grow → Type 0
IsLaterAnswer settings (Ok later) = IsLater settings later
IsLaterAnswer settings (Err Big) = ¬ AreEntriesWithin settings
IsLaterAnswer settings (Err Memory) = Unit {0}

-- `Big` has this reason; want of memory needs none.
abbrev pub IsBigFor : Type 0 → Grow → Type 0
IsBigFor P Big = P
IsBigFor P Memory = Unit {0}

-- The pairs of the unifier are those that are held.
abbrev pub HasPairs : List Pair → Unifier → Type 0
HasPairs ps u = u.flexflex.items ≡ ps

-- The unifier of the node, whose images are within the limits; or `Big` where they aren't; or `Memory`.
abbrev pub IsUnifierAnswer : node.Node → Result Unifier Grow → Type 0
IsUnifierAnswer m (Ok u) = (seen u ≡ unifier_of m) × AreImagesWithin (unifier_of m)
IsUnifierAnswer m (Err Big) = ¬ AreImagesWithin (unifier_of m)
IsUnifierAnswer m (Err Memory) = Unit {0}
