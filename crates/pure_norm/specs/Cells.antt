-- The nodes of a term in a row, and what can be told from a row alone: how often and how deep a bound variable occurs, and how large and how deep a term is that is held.
use Rattle.std.specs.Prelude.{ℕ, ◌+◌, ◌-◌, max, nat_eq, if◌then◌else◌, List, [], ◌∷◌, ◌++◌, length}
use Rattle.pure_definitions.specs.Types.Typ.{typ_size, typ_depth}
use Rattle.pure_definitions.specs.Terms.Term.{Term, Const, Free, Var, Bound, Abs, App}
use Rattle.pure_norm.specs.declared.cells.Cell.{Cell}
use Rattle.pure_norm.specs.declared.cells.Cell.TheVariants.{Variable, Application, Other}
use Rattle.pure_norm.specs.declared.measure.Measure.{Measure}
use Rattle.pure_norm.specs.Measures.{bound_measure}

-- the nodes of a term that stands below so many binders and so many nodes, each behind those that are below it
abbrev pub cells_of : (binders above : ℕ) → Term → List Cell
cells_of n k (Const c T) = Other (1 + typ_size T) (k + (1 + typ_depth T)) ∷ []
cells_of n k (Free x T) = Other (1 + typ_size T) (k + (1 + typ_depth T)) ∷ []
cells_of n k (Var x i T) = Other (1 + typ_size T) (k + (1 + typ_depth T)) ∷ []
cells_of n k (Bound p) = Variable p n k ∷ []
cells_of n k (Abs T b) = cells_of (n + 1) (k + 1) b ++ Other (1 + typ_size T) (k + (1 + typ_depth T)) ∷ []
cells_of n k (App f a) = cells_of n (k + 1) f ++ (cells_of n (k + 1) a ++ Application (length (cells_of n (k + 1) f)) ∷ [])

-- the sum of a number for each node, and the greatest of them
abbrev pub total : (Cell → ℕ) → List Cell → ℕ
total f [] = 0
total f (c ∷ cs) = f c + total f cs

abbrev pub greatest : (Cell → ℕ) → List Cell → ℕ
greatest f [] = 0
greatest f (c ∷ cs) = max (f c) (greatest f cs)

-- how many nodes the function has, where the node is an application
abbrev pub front_in : Cell → ℕ
front_in (Application f) = f
front_in _ = 0

-- how often the variable of an abstraction occurs at a node, where the abstraction's body stands below so many binders
abbrev pub cell_count : (binders : ℕ) → Cell → ℕ
cell_count n (Variable p m k) = if nat_eq p (m - n) then 1 else 0
cell_count n _ = 0

-- how many nodes are above it there, where the body stands below `above` nodes and comes to stand below `deep`; 0 where it doesn't occur
abbrev pub cell_deepest : (binders above deep : ℕ) → Cell → ℕ
cell_deepest n above deep (Variable p m k) = if nat_eq p (m - n) then (k - above) + deep else 0
cell_deepest n above deep _ = 0

-- what a node of a term adds to the size and to the depth of what is meant by it, where the term stands below so many binders and nodes,
-- and the measures of what stands for those binders are listed
abbrev pub cell_size : (binders above : ℕ) → List Measure → Cell → ℕ
cell_size n above ms (Variable p m k) = (bound_measure (m - n) ms p).size
cell_size n above ms (Application f) = 1
cell_size n above ms (Other size reach) = size

abbrev pub cell_depth : (binders above : ℕ) → List Measure → Cell → ℕ
cell_depth n above ms (Variable p m k) = (k - above) + (bound_measure (m - n) ms p).depth
cell_depth n above ms (Application f) = 0
cell_depth n above ms (Other size reach) = reach - above
