-- What a call that makes a type answers.
use Rattle.std.specs.Prelude.{◌≡◌, Result, Ok, Err}
use Rattle.pure_definitions.specs.Types.Typ.{Typ}
use Rattle.pure_definitions.specs.Terms.Limits.{IsWithinTyp}
use Rattle.pure_typ.specs.declared.grow.Grow.{Grow}
use Rattle.pure_typ.specs.declared.grow.Grow.TheVariants.{Big, Memory}

-- The answer of a call that makes this type: the type where it is within the limits, `Big` where it isn't, or `Memory`.
abbrev pub IsTypGrown : Typ → Result Typ Grow → Type 0
IsTypGrown t (Ok u) = (u ≡ t) × IsWithinTyp t
IsTypGrown t (Err Big) = ¬ IsWithinTyp t
IsTypGrown t (Err Memory) = Unit {0}
