-- What the call for equality modulo pairs answers.
use Rattle.std.specs.Prelude.{◌≡◌, ℕ, List, [], Option, Some, None, Result, Ok, Err}
use Rattle.pure_definitions.specs.Types.Typ.{Typ}
use Rattle.pure_definitions.specs.Terms.Term.{Term}
use Rattle.pure_definitions.specs.Terms.Limits.{cut_off}
use Rattle.pure_logic.specs.Derivable.{Pair}
use Rattle.pure_pairs.specs.Modulo.{AreEqualModulo, DiffersAt}
use Rattle.pure_pairs.specs.declared.modulo.PairDiffers.{PairDiffers}

-- The terms differ, first at this place, cut off at the greatest number of a call.
abbrev pub DiffersFrom : List Pair → List Typ → (t u : Term) → (cut : ℕ) → Type 0
DiffersFrom pairs bs t u cut = (place : ℕ) × DiffersAt pairs bs t u place × (cut ≡ cut_off place)

-- A place, or none: the terms differ first there, or are equal modulo the pairs.
abbrev pub IsDifference : List Pair → List Typ → (t u : Term) → Option ℕ → Type 0
IsDifference pairs bs t u None = AreEqualModulo pairs bs t u
IsDifference pairs bs t u (Some cut) = DiffersFrom pairs bs t u cut

-- The terms are equal modulo the pairs, under no binders; or they aren't, and this is the first place.
abbrev pub IsModuloAnswer : List Pair → (t u : Term) → Result (Unit {0}) PairDiffers → Type 0
IsModuloAnswer pairs t u (Ok _) = AreEqualModulo pairs [] t u
IsModuloAnswer pairs t u (Err fault) = DiffersFrom pairs [] t u fault.place
