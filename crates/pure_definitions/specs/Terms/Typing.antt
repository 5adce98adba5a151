-- Typing (Isabelle/Isar Implementation manual, section 2.2).
use Rattle.std.specs.Prelude.{◌≡◌, ◌⊎◌, ℕ, ◌+◌, List, ◌∷◌, slice_get, Some, None}
use Rattle.pure_definitions.specs.Types.Typ.{Typ, arrow}
use Rattle.pure_definitions.specs.Terms.Term.{Term, Const, Free, Var, Bound, Abs, App}

-- The term has the type under binders of these types, the innermost first. A constant or a variable has the type written with it; a bound variable that of its binder;
-- an abstraction over T of a body of type U has the type `T => U`; a function of type `T => U` applied to an argument of type T has the type U.
abbrev pub HasType : List Typ → Term → Typ → Type 0
HasType bs (Const c T) U = T ≡ U
HasType bs (Free x T) U = T ≡ U
HasType bs (Var x i T) U = T ≡ U
HasType bs (Bound n) U = slice_get bs n ≡ Some U
HasType bs (Abs T b) U = (V : Typ) × HasType (T ∷ bs) b V × (arrow T V ≡ U)
HasType bs (App f a) U = (T : Typ) × HasType bs f (arrow T U) × HasType bs a T

-- the count of the term's nodes, without those of types
abbrev pub node_count : Term → ℕ
node_count (Abs T b) = 1 + node_count b
node_count (App f a) = 1 + (node_count f + node_count a)
node_count _ = 1

-- The function's type takes the argument's.
abbrev pub Takes : Typ → Typ → Type 0
Takes function argument = (range : Typ) × (function ≡ arrow argument range)

-- The term has no type under these binders, and its first node at fault has this place. Nodes are looked at with those inside them first, a function before its argument; places count
-- a term's nodes from 0 with the term first, then what is inside it, a function before its argument. A bound variable is at fault where it has no binder, an application where its function doesn't take its argument.
abbrev pub IsUntypedAt : List Typ → Term → ℕ → Type 0
IsUntypedAt bs (Bound n) place = (slice_get bs n ≡ None) × (place ≡ 0)
IsUntypedAt bs (Abs T b) place = (inside : ℕ) × IsUntypedAt (T ∷ bs) b inside × (place ≡ 1 + inside)
IsUntypedAt bs (App f a) place = ((inside : ℕ) × IsUntypedAt bs f inside × (place ≡ 1 + inside))
    ⊎ ((T : Typ) × (inside : ℕ) × HasType bs f T × IsUntypedAt bs a inside × (place ≡ 1 + (node_count f + inside)))
    ⊎ ((T U : Typ) × HasType bs f T × HasType bs a U × (¬ Takes T U) × (place ≡ 0))
IsUntypedAt bs _ place = ⊥
