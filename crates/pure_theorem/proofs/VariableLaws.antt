-- A variable has the type that is written with it.
use Rattle.std.proofs.Common.{[], refl}
use Rattle.pure_definitions.specs.Terms.Term.{Term, Const, Free, Var, Bound, Abs, App}
use Rattle.pure_definitions.specs.Terms.Typing.{HasType}
use Rattle.pure_definitions.specs.Terms.Conditions.{IsVariable, variable_typ}

pub variable-typed : (x : Term) → IsVariable x → HasType [] x (variable_typ x)
variable-typed (Free x T) is = refl
variable-typed (Var x i T) is = refl
variable-typed (Const c T) is = absurd is
variable-typed (Bound n) is = absurd is
variable-typed (Abs T b) is = absurd is
variable-typed (App f a) is = absurd is
