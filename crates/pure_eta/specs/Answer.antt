-- What the call for a long form answers.
use Rattle.std.specs.Prelude.{Result, Ok, Err}
use Rattle.pure_definitions.specs.Terms.Term.{Term, IsWithin}
use Rattle.pure_definitions.specs.Reduction.Eta.{IsLongForm}
use Rattle.pure_typ.specs.declared.grow.Grow.{Grow}
use Rattle.pure_typ.specs.declared.grow.Grow.TheVariants.{Big, Memory}

-- The answer is the term's long form, within the limits; or `Big` where the term has a long form that isn't within them; or `Memory`.
abbrev pub IsLongAnswer : Term → Result Term Grow → Type 0
IsLongAnswer t (Ok u) = IsLongForm t u × IsWithin u
IsLongAnswer t (Err Big) = (u : Term) × IsLongForm t u × (¬ IsWithin u)
IsLongAnswer t (Err Memory) = Unit {0}
