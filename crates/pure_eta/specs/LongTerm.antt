-- The long form of a term, as a function.
use Rattle.std.specs.Prelude.{ℕ, zero, ◌+◌, ◌-◌, List, ◌∷◌, slice_get, Bool, true, false, Option, Some, None}
use Rattle.pure_definitions.specs.Types.Typ.{Typ, Con, none, also}
use Rattle.pure_definitions.specs.Terms.Term.{Term, Const, Free, Var, Bound, Abs, App}
use Rattle.pure_definitions.specs.Terms.Bounds.{lift_term}
use Rattle.pure_definitions.specs.Reduction.Eta.{arrow_count}

-- the type of what functions of the type give
abbrev pub range_typ : Option Typ → Option Typ
range_typ (Some (Con zero (also A (also B none)))) = Some B
range_typ _ = None

-- the type of a typed term whose front is a constant or a variable: the type at the front, one range further for each argument
abbrev pub front_typ : List Typ → Term → Option Typ
front_typ bs (Const c T) = Some T
front_typ bs (Free x T) = Some T
front_typ bs (Var x i T) = Some T
front_typ bs (Bound p) = slice_get bs p
front_typ bs (Abs T b) = None
front_typ bs (App f a) = range_typ (front_typ bs f)

-- the term under one abstraction for each arrow of the type, applied to their variables, each of them expanded at its own type
abbrev pub expanded : Typ → Term → Term
expanded (Con zero (also A (also B none))) t = Abs A (expanded B (App (lift_term 1 0 t) (expanded A (Bound 0))))
expanded T t = t

-- the same of a term that was raised over all those abstractions at once; so many of them are still to come
abbrev pub wrapped : Typ → ℕ → Term → Term
wrapped (Con zero (also A (also B none))) n t = Abs A (wrapped B (n - 1) (App t (wrapped A (arrow_count A) (Bound (n - 1 + arrow_count A)))))
wrapped T n t = t

-- the term expanded at its type where it isn't applied
abbrev pub expanded_at : (applied : Bool) → Option Typ → Term → Term
expanded_at false (Some T) t = expanded T t
expanded_at _ _ t = t

-- the term with each subterm that isn't applied expanded at its type; the term itself may be applied
abbrev pub long_term : (applied : Bool) → List Typ → Term → Term
long_term applied bs (Abs T b) = Abs T (long_term false (T ∷ bs) b)
long_term applied bs (App f a) = expanded_at applied (front_typ bs (App f a)) (App (long_term true bs f) (long_term false bs a))
long_term applied bs t = expanded_at applied (front_typ bs t) t
