-- What stands where in a term: its outermost abstractions, its head, and the arguments of the head (Isabelle/Isar Implementation manual, section 2.2).
use Rattle.std.specs.Prelude.{ℕ, zero, suc, ◌+◌, List, [], ◌∷◌, ◌++◌, Bool, true, false, ◌&&◌}
use Rattle.pure_definitions.specs.Types.Typ.{Typ, Con, none, also, arrow}
use Rattle.pure_definitions.specs.Terms.Term.{Term, Const, Free, Var, Bound, Abs, App}
use Rattle.pure_logic.specs.Derivable.{Pair}

-- the types of the term's outermost abstractions, the outermost first
abbrev pub abstractions : Term → List Typ
abstractions (Abs T b) = T ∷ abstractions b
abstractions _ = []

-- what stands below them
abbrev pub term_body : Term → Term
term_body (Abs T b) = term_body b
term_body t = t

-- the function at the front of applications, and its arguments, left to right
abbrev pub front : Term → Term
front (App f a) = front f
front t = t

abbrev pub arguments : Term → List Term
arguments (App f a) = arguments f ++ a ∷ []
arguments _ = []

-- the head of the term: what stands at the front below its abstractions
abbrev pub head : Term → Term
head t = front (term_body t)

-- whether the term is a schematic variable
abbrev pub is_schematic : Term → Bool
is_schematic (Var x i T) = true
is_schematic _ = false

-- whether the term is flexible, that is whether its head is schematic; else it is rigid
abbrev pub is_flexible : Term → Bool
is_flexible t = is_schematic (head t)

-- the term below abstractions of these types, the outermost first
abbrev pub below : List Typ → Term → Term
below [] t = t
below (T ∷ Ts) t = Abs T (below Ts t)

-- the types of the arguments that a function of the type takes, through all its arrows, and the type in which it ends (`Con zero` is the constructor `fun`)
abbrev pub domains : Typ → List Typ
domains (Con zero (also A (also B none))) = A ∷ domains B
domains _ = []

abbrev pub range : Typ → Typ
range (Con zero (also A (also B none))) = range B
range T = T

-- the type of functions from these types, in order, to T
abbrev pub function_typ : List Typ → Typ → Typ
function_typ [] T = T
function_typ (V ∷ Vs) T = arrow V (function_typ Vs T)

-- the function applied to these arguments, left to right
abbrev pub applied : Term → List Term → Term
applied f [] = f
applied f (a ∷ rest) = applied (App f a) rest

-- so many bound variables, of which the last is bound variable 0, and each before it is one higher
abbrev pub bounds : ℕ → List Term
bounds zero = []
bounds (suc count) = Bound count ∷ bounds count

-- the schematic variables of a term, in order of occurrence
abbrev pub variables : Term → List Term
variables (Var x i T) = Var x i T ∷ []
variables (Abs T b) = variables b
variables (App f a) = variables f ++ variables a
variables _ = []

-- the same of pairs
abbrev pub pair_variables : List Pair → List Term
pair_variables [] = []
pair_variables (p ∷ ps) = variables p.left ++ (variables p.right ++ pair_variables ps)

-- the pair of two terms
abbrev pub pair : (left right : Term) → Pair
pair l r = record { left = l; right = r }

-- the pairs of the terms at each place of two lists, each term below the abstractions of its side
abbrev pub pairs_below : (lefts rights : List Typ) → List Term → List Term → List Pair
pairs_below Ts Us (a ∷ rest) (b ∷ others) = pair (below Ts a) (below Us b) ∷ pairs_below Ts Us rest others
pairs_below Ts Us _ _ = []

-- the pairs of the arguments of two sides, left to right, each below the abstractions
abbrev pub argument_pairs : (l r : Term) → List Pair
argument_pairs l r = pairs_below (abstractions l) (abstractions r) (arguments (term_body l)) (arguments (term_body r))
