-- Graphs of types: nodes with numbers, in place of types that are written out, and what shows that they have values.
use Rattle.std.specs.Prelude.{◌≡◌, ◌<◌, ℕ, List, [], ◌∷◌, map, slice_get, Option, Some, None}
use Rattle.pure_text.specs.Lists.{IsIn, Each, EachTwo}
use Rattle.pure_definitions.specs.Types.Typ.{Typ, TFree, TVar, Con, Typs, none, also, typs_of}
use Rattle.pure_definitions.specs.Types.Order.{Algebra, HasClassBelow, IsOfClass, AreOfSorts, IsOfSort}

-- A node is a fixed type variable, a schematic one, or a constructor with the numbers of its arguments' nodes.
pub data Part : Type 0 where
  fixed : (name : ℕ) → (sort : List ℕ) → Part
  variable : (name index : ℕ) → (sort : List ℕ) → Part
  made : (name : ℕ) → (kids : List ℕ) → Part

-- The node of this number stands for the type.
abbrev mutual
  pub StandsFor : List Part → ℕ → Typ → Type 0
  StandsFor parts i (TFree x s) = slice_get parts i ≡ Some (fixed x s)
  StandsFor parts i (TVar x j s) = slice_get parts i ≡ Some (variable x j s)
  StandsFor parts i (Con k ts) = (kids : List ℕ) × (slice_get parts i ≡ Some (made k kids)) × StandForEach parts kids ts

  pub StandForEach : List Part → List ℕ → Typs → Type 0
  StandForEach parts [] none = Unit {0}
  StandForEach parts (i ∷ is) (also t ts) = StandsFor parts i t × StandForEach parts is ts
  StandForEach parts _ _ = ⊥

-- The node may have this type where other nodes have these values.
abbrev pub Fits : Algebra → (value : ℕ → Typ) → Part → Typ → Type 0
Fits A value (fixed x s) t = t ≡ TFree x s
Fits A value (variable x i s) t = IsOfSort A t s
Fits A value (made k kids) t = t ≡ Con k (typs_of (map value kids))

-- Each node has a value that it may have.
abbrev pub FitsAll : Algebra → List Part → (value : ℕ → Typ) → Type 0
FitsAll A parts value = (i : ℕ) (p : Part) → slice_get parts i ≡ Some p → Fits A value p (value i)

-- The values are made of others from below: a class without a shape, or of a variable, has that of its leaf.
abbrev pub IsBuiltAs : (leaf : ℕ → Typ) (root : ℕ → ℕ) (value : ℕ → Typ) → ℕ → Option Part → Type 0
IsBuiltAs leaf root value r None = value r ≡ leaf r
IsBuiltAs leaf root value r (Some (fixed x s)) = value r ≡ TFree x s
IsBuiltAs leaf root value r (Some (variable x i s)) = value r ≡ leaf r
IsBuiltAs leaf root value r (Some (made k kids)) = value r ≡ Con k (typs_of (map (λ kid. value (root kid)) kids))

-- The classes of the arguments of a shape have lesser ranks.
abbrev pub AreRanked : (root : ℕ → ℕ) (shape : ℕ → Option Part) (rank : ℕ → ℕ) → Type 0
AreRanked root shape rank = (r k : ℕ) (kids : List ℕ) → shape r ≡ Some (made k kids) → Each (λ kid. rank (root kid) < rank r) kids

-- A node is of one head with the shape of its class, and its arguments are of the same classes; of a variable's class its sort is asked.
abbrev pub Agrees : (root : ℕ → ℕ) (asked : ℕ → List ℕ) → (shape : Option Part) → (r : ℕ) → Part → Type 0
Agrees root asked shape r (fixed x s) = shape ≡ Some (fixed x s)
Agrees root asked shape r (variable x i s) = Each (λ c. IsIn c (asked r)) s
Agrees root asked shape r (made k kids) = (others : List ℕ) × (shape ≡ Some (made k others)) × (map root kids ≡ map root others)

-- A class of types that is asked of a class of nodes: what it asks of the shape is met, or asked.
abbrev pub IsMet : Algebra → (root : ℕ → ℕ) (asked : ℕ → List ℕ) (class : ℕ) → Option Part → Type 0
IsMet A root asked c None = Unit {0}
IsMet A root asked c (Some (fixed x s)) = HasClassBelow A s c
IsMet A root asked c (Some (variable x i s)) = Unit {0}
IsMet A root asked c (Some (made k kids)) = (domains : List (List ℕ)) × ((ts : Typs) → AreOfSorts A ts domains → IsOfClass A (Con k ts) c)
    × EachTwo (λ kid sort. Each (λ d. IsIn d (asked (root kid))) sort) kids domains

-- Nodes are in classes, each with a root, a shape, a rank, and the classes that are asked of it.
pub record IsClosed (A : Algebra) (parts : List Part) (root : ℕ → ℕ) (shape : ℕ → Option Part) (rank : ℕ → ℕ) (asked : ℕ → List ℕ) : Type 0 where
  pub agree : (i : ℕ) (p : Part) → slice_get parts i ≡ Some p → Agrees root asked (shape (root i)) (root i) p
  pub ranked : AreRanked root shape rank
  pub met : (r c : ℕ) → IsIn c (asked r) → IsMet A root asked c (shape r)

-- The nodes have values, one value for each class.
pub record HaveValues (A : Algebra) (parts : List Part) (root : ℕ → ℕ) : Type 0 where
  pub value : ℕ → Typ
  pub fits : FitsAll A parts value
  pub same : (i j : ℕ) → root i ≡ root j → value i ≡ value j
