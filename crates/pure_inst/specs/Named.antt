-- Types and terms without fixed variables of some names, by recursion.
use Rattle.std.specs.Prelude.{ℕ, List, Bool, IsTrue, nat_eq, not}
use Rattle.std.specs.List.{list_any}
use Rattle.pure_definitions.specs.Types.Typ.{Typ, TFree, TVar, Con, Typs, none, also}
use Rattle.pure_definitions.specs.Terms.Term.{Term, Const, Free, Var, Bound, Abs, App}

-- whether the name is one of these
abbrev pub is_named : List ℕ → ℕ → Bool
is_named names x = list_any (λ y. nat_eq y x) names

-- No fixed type variable of these names is in the type, or in any of the types.
abbrev mutual
  pub LacksTyps : List ℕ → Typ → Type 0
  LacksTyps names (TFree x s) = IsTrue (not (is_named names x))
  LacksTyps names (TVar x i s) = Unit {0}
  LacksTyps names (Con k ts) = LackTyps names ts

  pub LackTyps : List ℕ → Typs → Type 0
  LackTyps names none = Unit {0}
  LackTyps names (also t ts) = LacksTyps names t × LackTyps names ts

-- No fixed type variable of the one names and no fixed variable of the other names is in the term.
abbrev pub Lacks : (tfrees frees : List ℕ) → Term → Type 0
Lacks tfrees frees (Const c T) = LacksTyps tfrees T
Lacks tfrees frees (Free x T) = IsTrue (not (is_named frees x)) × LacksTyps tfrees T
Lacks tfrees frees (Var x i T) = LacksTyps tfrees T
Lacks tfrees frees (Bound n) = Unit {0}
Lacks tfrees frees (Abs T b) = LacksTyps tfrees T × Lacks tfrees frees b
Lacks tfrees frees (App f a) = Lacks tfrees frees f × Lacks tfrees frees a
