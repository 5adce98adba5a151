-- What is found of the arguments of a term.
use Rattle.std.specs.Prelude.{◌≡◌, ℕ, Option, Some, None}
use Rattle.pure_definitions.specs.Terms.Term.{Term, Bound}
use Rattle.pure_pattern_laws.specs.Patterns.{IsPlace}

-- The term is this bound variable up to eta steps, or it is none.
abbrev pub IsPlaceFound : Term → Option ℕ → Type 0
IsPlaceFound t (Some z) = IsPlace t z
IsPlaceFound t None = (z : ℕ) → ¬ IsPlace t z

-- The term is this bound variable, or it is none.
abbrev pub IsBoundFound : Term → Option ℕ → Type 0
IsBoundFound t (Some z) = t ≡ Bound z
IsBoundFound t None = (z : ℕ) → ¬ (t ≡ Bound z)
