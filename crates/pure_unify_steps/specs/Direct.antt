-- Variables that are set to the other side as it stands, as a walk through it tells.
use Rattle.std.specs.Prelude.{◌≡◌, ℕ, ◌+◌, ◌-◌, [], nat_eq, nat_lt, if◌then◌else◌, Bool, true, false, ◌&&◌}
use Rattle.pure_definitions.specs.Terms.Term.{Term, Const, Free, Var, Bound, Abs, App}
use Rattle.pure_definitions.specs.Terms.Bounds.{Occurs}
use Rattle.pure_unify_definitions.specs.Fronts.{is_schematic}
use Rattle.pure_unify_nodes.specs.OneTyp.{HaveOneTyp}

-- whether the term is neither an abstraction nor a schematic variable
abbrev pub is_plain : Term → Bool
is_plain (Var x i T) = false
is_plain (Abs T b) = false
is_plain _ = true

-- whether the term is another than the innermost bound variable
abbrev pub is_other : Term → Bool
is_other (Bound p) = nat_lt 0 p
is_other _ = true

-- whether the body of an abstraction is no application to its variable
abbrev pub is_other_body : Term → Bool
is_other_body (App f a) = is_other a
is_other_body _ = true

-- whether no abstraction in the term is of an application to its own variable
abbrev pub is_contracted : Term → Bool
is_contracted (Abs T b) = is_other_body b && is_contracted b
is_contracted (App f a) = is_contracted f && is_contracted a
is_contracted _ = true

-- The first side is a schematic variable of the other side's type, which has no eta step and in which the variable doesn't occur.
pub record IsSetTo (v other : Term) : Type 0 where
  pub variable : is_schematic v ≡ true
  pub typ : HaveOneTyp [] v other
  pub absent : ¬ Occurs v other
  pub contracted : is_contracted other ≡ true

-- whether the function at the term's front is applied to so many arguments
abbrev pub has_arguments : (count : ℕ) → Term → Bool
has_arguments n (App f a) = if nat_eq n 0 then false else has_arguments (n - 1) f
has_arguments n _ = nat_eq n 0

-- whether what stands below the term's abstractions has as many arguments as they and so many others are, as the long form of a variable has
abbrev pub has_as_many : (binders : ℕ) → Term → Bool
has_as_many n (Abs T b) = has_as_many (n + 1) b
has_as_many n t = has_arguments n t
