-- What a conversion answers.
use Rattle.std.specs.Prelude.{◌≡◌}
use Rattle.pure_kernel.specs.Definitions.Types.Typ.{Typ}
use Rattle.pure_kernel.specs.Definitions.Terms.Term.{Term}
use Rattle.pure_kernel.specs.Logic.Connectives.{eq}
use Rattle.pure_kernel.specs.Logic.Derivable.{Theorem}

-- The theorem is an equation from the term.
abbrev pub IsFrom : Term → Theorem → Type 0
IsFrom t th = (T : Typ) × (u : Term) × (th.prop ≡ eq T t u)
