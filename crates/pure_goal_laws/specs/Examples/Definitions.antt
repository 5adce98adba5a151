-- Computed examples of prefixes, of rules stripped of their front, and of rules lifted over a prefix.
use Rattle.std.specs.Prelude.{◌≡◌, List, [], ◌∷◌}
use Rattle.pure_definitions.specs.Types.Typ.{arrow, prop}
use Rattle.pure_definitions.specs.Terms.Term.{Term, Free, Var, Bound, Abs, App}
use Rattle.pure_logic.specs.Connectives.{all, imp}
use Rattle.pure_goal_laws.specs.Prefix.{Item, Parameter, Hypothesis, behind, below_parameters, hypotheses}
use Rattle.pure_goal_laws.specs.Lifting.{IsStripped, lifted_behind}

-- fixed and schematic variables of type prop, and two for functions of propositions
abbrev pub a : Term
a = Free 10 prop

abbrev pub b : Term
b = Free 11 prop

abbrev pub any_a : Term
any_a = Var 10 1 prop

abbrev pub any_b : Term
any_b = Var 11 1 prop

abbrev pub any_f : Term
any_f = Var 10 1 (arrow prop prop)

abbrev pub any_g : Term
any_g = Var 11 1 (arrow prop prop)

-- the prefix of `!!x :: prop. x ==> (!!f :: prop => prop. f x ==> C)`
abbrev pub prefix : List Item
prefix = Parameter prop ∷ Hypothesis (Bound 0) ∷ Parameter (arrow prop prop) ∷ Hypothesis (App (Bound 0) (Bound 1)) ∷ []

-- Behind it f is the bound variable 0, and x the bound variable 1: so its hypotheses are `x` and `f x` there, and `f x` below its parameters is `%x f. f x`.
abbrev pub PrefixExample : Type 0
PrefixExample = (behind prefix (App (Bound 0) a) ≡ all prop (imp (Bound 0) (all (arrow prop prop) (imp (App (Bound 0) (Bound 1)) (App (Bound 0) a)))))
    × (hypotheses prefix ≡ Bound 1 ∷ App (Bound 0) (Bound 1) ∷ [])
    × (below_parameters prefix (App (Bound 0) (Bound 1)) ≡ Abs prop (Abs (arrow prop prop) (App (Bound 0) (Bound 1))))

-- the function for `?A` lifted over x and f
abbrev pub lifted_a : Term
lifted_a = Var 10 1 (arrow prop (arrow (arrow prop prop) prop))

-- Lifted over the prefix `?A` is `?A x f`, also under binders of the rule's own; a fixed variable and a bound variable of the rule's own stay.
abbrev pub LiftedExample : Type 0
LiftedExample = (lifted_behind prefix any_a ≡ App (App lifted_a (Bound 1)) (Bound 0)) × (lifted_behind prefix (all prop (imp any_a (Bound 0))) ≡ all prop (imp (App (App lifted_a (Bound 2)) (Bound 1)) (Bound 0)))
    × (lifted_behind prefix (imp a a) ≡ imp a a) × (lifted_behind (Hypothesis a ∷ []) any_a ≡ any_a)

-- `!!x. x ==> (!!y. y ==> x)` is the rule with the premises `?A` and `?B` and the conclusion `?A`.
abbrev pub StrippedExample : Type 0
StrippedExample = IsStripped (all prop (imp (Bound 0) (all prop (imp (Bound 0) (Bound 1))))) (any_a ∷ any_b ∷ []) any_a
