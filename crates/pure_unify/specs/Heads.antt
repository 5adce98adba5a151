-- What stands for a type under settings, as long as it is a schematic variable.
use Rattle.std.specs.Prelude.{◌≡◌, ℕ, ◌≤◌, List, length, drop, Bool, true, false}
use Rattle.pure_definitions.specs.Types.Typ.{Typ, TVar}
use Rattle.pure_definitions.specs.Terms.Subst.{typ_image}
use Rattle.pure_unify_steps.specs.declared.node.Setting.{Setting}
use Rattle.pure_unify_steps.specs.declared.node.Setting.TheVariants.{OfTyps}
use Rattle.pure_unify.specs.Later.{typ_later}

-- whether the type is a schematic variable
abbrev pub is_typ_schematic : Typ → Bool
is_typ_schematic (TVar x i s) = true
is_typ_schematic _ = false

-- a schematic type variable under a setting; all other types stay
abbrev pub typ_put : Setting → Typ → Typ
typ_put (OfTyps binds) (TVar x i s) = typ_image binds (TVar x i s)
typ_put _ T = T

-- Under so many of the settings the type is this one, under all of them what this one is under the rest; and this one isn't schematic, or none is left.
pub record IsHeadLater (settings : List Setting) (T top : Typ) (count : ℕ) : Type 0 where
  pub few : count ≤ length settings
  pub same : typ_later settings T ≡ typ_later (drop count settings) top
  pub stuck : is_typ_schematic top ≡ true → count ≡ length settings
