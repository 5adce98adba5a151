-- What a call asks of the terms that it is given.
use Rattle.std.specs.Prelude.{◌≡◌, ℕ, ◌+◌, ◌<◌, ◌≤◌}
use Rattle.pure_definitions.specs.Types.Typ.{Typ, prop}
use Rattle.pure_definitions.specs.Terms.Term.{Term, Free, Var, Bound, Abs, App}

-- Each loose bound variable at or above `from` can be raised by `by`: the sum is a number of the program.
abbrev pub IsLiftable : (by from : ℕ) → Term → Type 0
IsLiftable by from (Bound p) = from ≤ p → p + by < 4294967296
IsLiftable by from (Abs T b) = IsLiftable by (from + 1) b
IsLiftable by from (App f a) = IsLiftable by from f × IsLiftable by from a
IsLiftable by from _ = Unit {0}

-- Wherever bound variable n of the body stands, the argument can be raised by the binders of the body above it.
abbrev pub IsPuttable : ℕ → (arg body : Term) → Type 0
IsPuttable n arg (Bound p) = p ≡ n → IsLiftable n 0 arg
IsPuttable n arg (Abs T b) = IsPuttable (n + 1) arg b
IsPuttable n arg (App f a) = IsPuttable n arg f × IsPuttable n arg a
IsPuttable n arg _ = Unit {0}

-- The term is a fixed or a schematic variable.
abbrev pub IsVariable : Term → Type 0
IsVariable (Free x T) = Unit {0}
IsVariable (Var x i T) = Unit {0}
IsVariable _ = ⊥

-- the type that is written with a variable
abbrev pub variable_typ : Term → Typ
variable_typ (Free x T) = T
variable_typ (Var x i T) = T
variable_typ _ = prop
