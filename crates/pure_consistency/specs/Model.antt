-- A finite model of Pure: each type has finitely many values, and each term has one, under values for its variables and its binders. A model is given by the points of which the types without structure consist.
use Rattle.std.specs.Prelude.{◌≡◌, ℕ, zero, suc, Bool, true, false, not, ◌||◌, ◌&&◌, nat_eq, if◌then◌else◌, List, [], ◌∷◌, map}
use Rattle.pure_text.specs.Lists.{IsIn}
use Rattle.pure_definitions.specs.Names.{fun_name, prop_name, all_name, imp_name, eq_name, protect_name}
use Rattle.pure_definitions.specs.Types.Typ.{Typ, TFree, TVar, Con, Typs, none, also, arrow, prop, typ_eq}
use Rattle.pure_definitions.specs.Terms.Term.{Term, Const, Free, Var, Bound, Abs, App, term_eq}
use Rattle.pure_definitions.specs.Terms.Conditions.{variable_typ}
use Rattle.pure_logic.specs.Connectives.{all_typ, imp_typ, eq_typ, protect_typ}
use Rattle.pure_consistency.specs.Values.{Value, Point, Truth, Function, value_eq, applied, table, tables, is_true_everywhere, truths, first_of}

-- the values of a type: of prop the truth values; of functions all tables from the values of the arguments to those of the results; of any other type, variables of whatever sort among them, the points
abbrev mutual
  pub domain : (points : List Value) → Typ → List Value
  domain points (TFree x s) = points
  domain points (TVar x i s) = points
  domain points (Con k ts) = if nat_eq k prop_name then truths else (if nat_eq k fun_name then functions points ts else points)

  pub functions : (points : List Value) → Typs → List Value
  functions points (also a (also b none)) = map Function (tables (domain points a) (domain points b))
  functions points _ = points

-- the type of the arguments of functions of this type
abbrev pub argument_typ : Typ → Typ
argument_typ (Con k (also a ts)) = a
argument_typ T = T

-- `!!`: true of a function that is true at each argument
abbrev pub quantified : Value → Value
quantified (Function rs) = Truth (is_true_everywhere rs)
quantified _ = Truth false

abbrev pub implied : Value → Value → Value
implied (Truth a) (Truth b) = Truth (not a || b)
implied _ _ = Truth false

-- the connectives as values: `!!` and `==` at a type, `==>`, and the mark, which changes nothing
abbrev pub all_value : List Value → Typ → Value
all_value points T = Function (table (domain points (arrow T prop)) quantified)

abbrev pub eq_value : List Value → Typ → Value
eq_value points T = Function (table (domain points T) (λ v. Function (table (domain points T) (λ w. Truth (value_eq v w)))))

abbrev pub imp_value : Value
imp_value = Function (table truths (λ a. Function (table truths (implied a))))

abbrev pub protect_value : Value
protect_value = Function (table truths (λ a. a))

-- whether a constant with its type is this one
abbrev pub is_constant : ℕ → Typ → ℕ → Typ → Bool
is_constant c T d U = nat_eq c d && typ_eq T U

-- the value of a constant: the connectives have their own, any other constant the first of its type
abbrev pub constant_value : (points : List Value) → ℕ → Typ → Value
constant_value points c T =
    if is_constant c T all_name (all_typ (argument_typ (argument_typ T))) then all_value points (argument_typ (argument_typ T))
    else (if is_constant c T imp_name imp_typ then imp_value
    else (if is_constant c T eq_name (eq_typ (argument_typ T)) then eq_value points (argument_typ T)
    else (if is_constant c T protect_name protect_typ then protect_value
    else first_of (domain points T))))

-- the value of a bound variable, where the binders around it have these, the innermost first
abbrev pub bound_value : List Value → ℕ → Value
bound_value [] n = Point 0
bound_value (v ∷ vs) zero = v
bound_value (v ∷ vs) (suc n) = bound_value vs n

-- the value of a term, where variables and the binders around it have these
abbrev pub meaning : (points : List Value) → (variables : Term → Value) → (binders : List Value) → Term → Value
meaning points variables binders (Const c T) = constant_value points c T
meaning points variables binders (Free x T) = variables (Free x T)
meaning points variables binders (Var x i T) = variables (Var x i T)
meaning points variables binders (Bound n) = bound_value binders n
meaning points variables binders (Abs T b) = Function (table (domain points T) (λ v. meaning points variables (v ∷ binders) b))
meaning points variables binders (App f a) = applied (meaning points variables binders f) (meaning points variables binders a)

-- Each variable has a value of its type.
pub record AreValues (points : List Value) (variables : Term → Value) : Type 0 where
  pub fixed : (x : ℕ) (T : Typ) → IsIn (variables (Free x T)) (domain points T)
  pub schematic : (x i : ℕ) (T : Typ) → IsIn (variables (Var x i T)) (domain points T)

-- The proposition is true, where variables have these values.
abbrev pub IsTrueUnder : (points : List Value) → (variables : Term → Value) → Term → Type 0
IsTrueUnder points variables A = meaning points variables [] A ≡ Truth true

-- the same values, but for one variable
abbrev pub revalued : (variable : Term) → (value : Value) → (variables : Term → Value) → Term → Value
revalued x v variables w = if term_eq x w then v else variables w

-- the first value of its type for each variable
abbrev pub first_values : (points : List Value) → Term → Value
first_values points w = first_of (domain points (variable_typ w))
