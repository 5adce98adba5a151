-- Types, terms and class orders for the examples of the laws.
use Rattle.std.specs.Prelude.{ℕ, zero, suc, List, [], ◌∷◌}
use Rattle.pure_definitions.specs.Types.Typ.{Typ, Con, none, arrow}
use Rattle.pure_definitions.specs.Terms.Term.{Term, Const, Free, Var, Bound, Abs, App}
use Rattle.pure_definitions.specs.Types.Order.{Class, Arity, Algebra}

-- two types without arguments, and a constructor k of one argument
abbrev pub i : Typ
i = Con 10 none

abbrev pub j : Typ
j = Con 11 none

abbrev pub k : ℕ
k = 12

-- classes
abbrev pub c : ℕ
c = 20

abbrev pub d : ℕ
d = 21

abbrev pub e : ℕ
e = 22

abbrev pub g : ℕ
g = 23

-- `a :: i`, `f :: i => i` and `p :: i => i => i`
abbrev pub a : Term
a = Const 30 i

abbrev pub f : Term
f = Const 31 (arrow i i)

abbrev pub p : Term
p = Const 32 (arrow i (arrow i i))

-- the fixed variables `x :: i`, `y :: i` and `z :: i`, and the schematic ones `?x :: i` and `?y :: i`
abbrev pub x : Term
x = Free 40 i

abbrev pub y : Term
y = Free 41 i

abbrev pub z : Term
z = Free 42 i

abbrev pub any_x : Term
any_x = Var 40 0 i

abbrev pub any_y : Term
any_y = Var 41 0 i

-- `(%x. x) a`, and `(%x. p x x) ((%x. x) a)`
abbrev pub identity_at_a : Term
identity_at_a = App (Abs i (Bound 0)) a

abbrev pub doubled_at_a : Term
doubled_at_a = App (Abs i (App (App p (Bound 0)) (Bound 0))) identity_at_a

-- `(%x. x x) (%x. x x)`, which has no type, and whose beta steps never end
abbrev pub endless : Term
endless = App (Abs i (App (Bound 0) (Bound 0))) (Abs i (App (Bound 0) (Bound 0)))

-- the term p applied to two terms
abbrev pub pair : Term → Term → Term
pair t u = App (App p t) u

-- f applied n times to x, of depth n + 3 where n isn't 0
unfoldable pub tower : ℕ → Term
tower zero = x
tower (suc n) = App f (tower n)

-- a full tree of applications, of size 2 ^ (n + 1) - 1 and depth n + 1
unfoldable pub doubled : ℕ → Term
doubled zero = Bound 0
doubled (suc n) = App (doubled n) (doubled n)

-- a term of 199,996 nodes more than the one put into it
unfoldable pub filled : Term → Term
filled t = App (doubled 16) (App (doubled 15) (App (doubled 10) (App (doubled 9) (App (doubled 7) (App (doubled 4) (App (doubled 3) (App (doubled 2) (App (doubled 1) t))))))))

-- the sort of one class
abbrev pub sort_of : ℕ → List ℕ
sort_of class = class ∷ []

-- the arity `k :: (domain) class`
abbrev pub arity : (domain class : ℕ) → Arity
arity domain class = record { con = k; domains = sort_of domain ∷ []; class = class }

abbrev pub class_above : ℕ → List ℕ → Class
class_above name above = record { name = name; above = above }

-- class c is declared below e, and e below g; d is declared with no class above it
abbrev pub ladder : Algebra
ladder = record { classes = class_above g [] ∷ class_above e (g ∷ []) ∷ class_above c (e ∷ []) ∷ class_above d [] ∷ []; arities = arity c e ∷ [] }

-- unrelated classes c, d and e, with `k :: (c) e` and `k :: (d) e`
abbrev pub crossing : Algebra
crossing = record { classes = class_above c [] ∷ class_above d [] ∷ class_above e [] ∷ []; arities = arity c e ∷ arity d e ∷ [] }

-- the same classes, with the arity `k :: (c) e` and one for e without domains
abbrev pub uneven : Algebra
uneven = record { classes = class_above c [] ∷ class_above d [] ∷ class_above e [] ∷ []; arities = arity c e ∷ record { con = k; domains = []; class = e } ∷ [] }

-- unrelated classes c and d, both below e
abbrev pub fork : List Class
fork = class_above e [] ∷ class_above c (e ∷ []) ∷ class_above d (e ∷ []) ∷ []

-- over them `k :: (c) c` and `k :: (d) d`, with `k :: (e) e` and without
abbrev pub joined_fork : Algebra
joined_fork = record { classes = fork; arities = arity e e ∷ arity c c ∷ arity d d ∷ [] }

abbrev pub open_fork : Algebra
open_fork = record { classes = fork; arities = arity c c ∷ arity d d ∷ [] }

-- class g below class e, unrelated classes c and d, with `k :: (c) e` and `k :: (d) g`
abbrev pub falling : Algebra
falling = record { classes = class_above e [] ∷ class_above g (e ∷ []) ∷ class_above c [] ∷ class_above d [] ∷ []; arities = arity c e ∷ arity d g ∷ [] }
