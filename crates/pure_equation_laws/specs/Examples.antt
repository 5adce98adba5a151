-- Equations of a beta redex modulo one pair, as examples of the laws, over the content of pure_logic's examples.
use Rattle.std.specs.Prelude.{List, [], ◌∷◌}
use Rattle.pure_definitions.specs.Types.Typ.{Typ, arrow, prop}
use Rattle.pure_definitions.specs.Terms.Term.{Term, Bound, Abs, App}
use Rattle.pure_term_laws.specs.LawsExamples.{i, a, f, x, y, any_x}
use Rattle.pure_logic.specs.Connectives.{eq}
use Rattle.pure_logic.specs.Derivable.{Pair, IsDerivable}
use Rattle.pure_logic.specs.Examples.Theory.{less, h, example}
use Rattle.pure_equation_laws.specs.Equated.{AreEquated, AreEqualModulo}

-- `(%z. f z) t`
abbrev pub redex : Term → Term
redex t = App (Abs i (App f (Bound 0))) t

-- `%z. (%z. f z) z`
abbrev pub redex_function : Term
redex_function = Abs i (redex (Bound 0))

-- the pair of two terms, alone
abbrev pub one_pair : (left right : Term) → List Pair
one_pair left right = record { left = left; right = right } ∷ []

-- the pairs of a and y and of x and y
abbrev pub pairs_with_y : List Pair
pairs_with_y = record { left = a; right = y } ∷ record { left = x; right = y } ∷ []

-- Over the content of the examples the terms of this type are equated modulo the pairs, under no binders.
abbrev pub Equates : (pairs : List Pair) → Typ → Term → Term → Type 0
Equates pairs T t u = AreEquated example.declarations pairs [] T t u

-- Modulo no pairs `(%z. f z) a` is equated with its normal form `f a`, `%z. f z` with its eta-normal form f, and f with its long form `%z. f z`.
abbrev pub NormalFormExample : Type 0
NormalFormExample = Equates [] i (redex a) (App f a)

abbrev pub EtaNormalFormExample : Type 0
EtaNormalFormExample = Equates [] (arrow i i) (Abs i (App f (Bound 0))) f

abbrev pub LongFormExample : Type 0
LongFormExample = Equates [] (arrow i i) f (Abs i (App f (Bound 0)))

-- Modulo the pair of a and x `(%z. f z) a` is equated with `f x`.
abbrev pub RedexExample : Type 0
RedexExample = Equates (one_pair a x) i (redex a) (App f x)

-- So it is modulo the pairs of a and y and of x and y.
abbrev pub OtherPairsExample : Type 0
OtherPairsExample = Equates pairs_with_y i (redex a) (App f x)

-- Modulo the pair of a and `?x` it is equated with `f ?x`; so with y for `?x`, in the pair too, with `f y`.
abbrev pub InstanceExample : Type 0
InstanceExample = Equates (one_pair a any_x) i (redex a) (App f any_x) × Equates (one_pair a y) i (redex a) (App f y)

-- Modulo the pair of a and y `(%z. f z) ?x` has equated instances, with a for `?x` and with y.
abbrev pub TwoInstancesExample : Type 0
TwoInstancesExample = Equates (one_pair a y) i (redex a) (redex y)

-- Modulo no pairs `%z. (%z. f z) z` is equated with f, since the two are at each argument.
abbrev pub FunctionsExample : Type 0
FunctionsExample = Equates [] (arrow i i) redex_function f

-- Modulo the pair of `%z. (%z. f z) z` and `%z. h z` the bodies are equated, under the binder.
abbrev pub BodiesExample : Type 0
BodiesExample = AreEquated example.declarations (one_pair redex_function (Abs i (App h (Bound 0)))) (i ∷ []) i (redex (Bound 0)) (App h (Bound 0))

-- Modulo the pair of a and x `%z. a < z` is equal to `%z. x < z` node by node, but for the sides of the pair, under the binder and inside an application; so the two are equated.
abbrev pub NodesExample : Type 0
NodesExample = AreEqualModulo example.declarations (one_pair a x) [] (Abs i (less a (Bound 0))) (Abs i (less x (Bound 0)))
    × Equates (one_pair a x) (arrow i prop) (Abs i (less a (Bound 0))) (Abs i (less x (Bound 0)))

-- Under the pair of a and x, `(%z. f z) a < y` is derivable from the hypothesis `f x < y`, since that is.
abbrev pub PropositionExample : Type 0
PropositionExample = IsDerivable example (record { hyps = less (App f x) y ∷ []; pairs = one_pair a x; prop = less (redex a) y; rests = [] })

-- The equation `(%z. f z) a == f x` is derivable under its own pair, and so under the pair of a and x.
abbrev pub PairsExample : Type 0
PairsExample = IsDerivable example (record { hyps = []; pairs = one_pair a x; prop = eq i (redex a) (App f x); rests = [] })
