-- A definition by which constants are unfolded, as the code holds it, and what walks over terms with it answer.
use Rattle.std.specs.Prelude.{◌≡◌, ◌↔◌, ℕ, Bool, IsTrue, Option, Some, None}
use Rattle.pure_definitions.specs.Types.Typ.{Typ}
use Rattle.pure_definitions.specs.Terms.Term.{Term, Const, IsWithin}
use Rattle.pure_typ.specs.declared.grow.Grow.{Grow}
use Rattle.pure_typ.specs.declared.grow.Grow.TheVariants.{Big, Memory}
use Rattle.pure_conv.specs.declared.rule.Rule.{Rule}
use Rattle.pure_unfold.specs.Replaced.{IsReplaced, HasReplaced}
use Rattle.pure_unfold.specs.Unfold.{HasVariable, HasExtraTyp, IsUnfolded}

-- what the definition puts for constants
abbrev pub puts : Rule → ℕ → Typ → Term → Type 0
puts r = IsUnfolded r.order.now r.name r.typ.now r.body.now

-- It is a definition: its body has no variable, and no type variable that its type lacks.
abbrev pub IsDefining : Rule → Type 0
IsDefining r = (¬ HasVariable r.body.now) × (¬ HasExtraTyp r.typ.now r.body.now)

-- what stands in place of the term: what it was made into; or the term, where it wasn't made anew
abbrev pub became : Term → Option Term → Term
became t None = t
became t (Some u) = u

-- The term is no constant.
abbrev pub IsNoConstant : Term → Type 0
IsNoConstant t = (name : ℕ) (typ : Typ) → ¬ (t ≡ Const name typ)

-- The term becomes some term, and this says whether anything in it is replaced.
abbrev pub IsLookedThrough : (Puts : ℕ → Typ → Term → Type 0) → Term → Bool → Type 0
IsLookedThrough Puts t some = ((u : Term) × IsReplaced Puts t u) × (IsTrue some ↔ HasReplaced Puts t)

-- What the term becomes isn't within the limits; or memory ran out.
abbrev pub IsTooLarge : (Puts : ℕ → Typ → Term → Type 0) → Term → Grow → Type 0
IsTooLarge Puts t Big = (u : Term) → IsReplaced Puts t u → ¬ IsWithin u
IsTooLarge Puts t Memory = Unit {0}
