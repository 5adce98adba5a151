-- What a step that makes a term answers.
use Rattle.std.specs.Prelude.{◌≡◌, Result, Ok, Err}
use Rattle.pure_definitions.specs.Terms.Term.{Term, IsWithin}
use Rattle.pure_typ.specs.declared.grow.Grow.{Grow}
use Rattle.pure_typ.specs.declared.grow.Grow.TheVariants.{Big, Memory}

-- The answer is the term, whether it is within the limits or not; or `Big`, and then it isn't; or `Memory`.
abbrev pub IsMade : Term → Result Term Grow → Type 0
IsMade t (Ok u) = u ≡ t
IsMade t (Err Big) = ¬ IsWithin t
IsMade t (Err Memory) = Unit {0}
