-- Rules: how they are read, and how they are lifted over the prefix of a subgoal (Isabelle/Isar Implementation manual, section 2.4.2).
use Rattle.std.specs.Prelude.{ℕ, zero, suc, ◌+◌, List, [], ◌∷◌, length}
use Rattle.pure_definitions.specs.Types.Typ.{Typ, arrow}
use Rattle.pure_definitions.specs.Terms.Term.{Term, Var, Bound, Abs, App}
use Rattle.pure_definitions.specs.Terms.Bounds.{subst_bound}
use Rattle.pure_logic.specs.Connectives.{all, imp}
use Rattle.pure_goal_laws.specs.Prefix.{Item, parameters}

-- A rule is read as premises and a conclusion: its front is stripped, from the left, as far as one likes, with any variables. A schematic variable of its type is put for each quantified variable, and each hypothesis becomes a premise.
pub data IsStripped : Term → List Term → Term → Type 0 where
  bare : (C : Term) → IsStripped C [] C
  quantified : (T : Typ) (B : Term) (x i : ℕ) (As : List Term) (C : Term) → IsStripped (subst_bound B (Var x i T)) As C → IsStripped (all T B) As C
  supposed : (A B : Term) (As : List Term) (C : Term) → IsStripped B As C → IsStripped (imp A B) (A ∷ As) C

-- the type of functions from these types, in order, to T
abbrev pub function_typ : List Typ → Typ → Typ
function_typ [] T = T
function_typ (V ∷ Vs) T = arrow V (function_typ Vs T)

-- the function applied to as many bound variables as said, of which the last is the given one, and each before it is one higher
abbrev pub applied_to_bounds : (count last : ℕ) → (function : Term) → Term
applied_to_bounds zero last f = f
applied_to_bounds (suc count) last f = App (applied_to_bounds count (last + 1) f) (Bound last)

-- Under n binders of the term: each schematic variable becomes a function of variables of these types, and is applied to those that are bound around the term.
abbrev pub lifted_under : List Typ → ℕ → Term → Term
lifted_under Ts n (Var x i T) = applied_to_bounds (length Ts) n (Var x i (function_typ Ts T))
lifted_under Ts n (Abs T b) = Abs T (lifted_under Ts (n + 1) b)
lifted_under Ts n (App f a) = App (lifted_under Ts n f) (lifted_under Ts n a)
lifted_under Ts n t = t

-- the term of a rule lifted over the parameters x1 to xk of a prefix: `?v x1 .. xk` for each schematic variable `?v`. The rule's indexes are raised before, apart from those of the goal.
abbrev pub lifted_behind : List Item → Term → Term
lifted_behind ps t = lifted_under (parameters ps) 0 t
