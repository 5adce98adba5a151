-- What a call that makes a term answers.
use Rattle.std.specs.Prelude.{◌≡◌, Result, Ok, Err}
use Rattle.pure_definitions.specs.Terms.Term.{Term, IsWithin}
use Rattle.pure_typ.specs.declared.grow.Grow.{Grow}
use Rattle.pure_typ.specs.declared.grow.Grow.TheVariants.{Big, Memory}

-- The answer of a call that makes this term: the term where it is within the limits, `Big` where it isn't, or `Memory`.
abbrev pub IsGrown : Term → Result Term Grow → Type 0
IsGrown t (Ok u) = (u ≡ t) × IsWithin t
IsGrown t (Err Big) = ¬ IsWithin t
IsGrown t (Err Memory) = Unit {0}
