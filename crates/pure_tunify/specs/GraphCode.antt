-- What the calls on graphs of types say.
use Rattle.std.specs.Prelude.{◌≡◌, ◌<◌, ℕ, List, [], ◌∷◌, ◌++◌, map, length, get_or, slice_get, Option, Some, None, Bool, MatchBool}
use Rattle.std.specs.BTreeMap.{BTreeMap, is_at}
use Rattle.std.specs.Map.{lookup}
use Rattle.pure_definitions.specs.Models.Comparison.{typ_cmp}
use Rattle.pure_text.specs.Lists.{IsIn, Each, AnyOf}
use Rattle.std.specs.declared.alloc.Global.{Global}
use Rattle.std.specs.declared.vec.Vec.{Vec}
use Rattle.pure_definitions.specs.Types.Typ.{Typ, TFree, TVar, Con}
use Rattle.pure_definitions.specs.Types.Order.{Algebra, IsOfClass}
use Rattle.pure_tunify.specs.Graphs.{Part, fixed, variable, made, StandsFor, Fits, FitsAll, Agrees, IsMet, IsClosed}
use Rattle.pure_tunify.specs.declared.graph.Node.{Node}
use Rattle.pure_tunify.specs.declared.graph.Node.TheVariants.{Fixed, Variable, Made}
use Rattle.pure_tunify.specs.declared.classes.Couple.{Couple}
use Rattle.pure_tunify.specs.declared.classes.Classes.{Classes}
use Rattle.pure_tunify.specs.declared.demands.Demand.{Demand}

-- what a node of the code is
abbrev pub part_of : Node → Part
part_of (Fixed x s) = fixed x s
part_of (Variable x i s) = variable x i s
part_of (Made k kids) = made k kids.items

-- The node is this variable.
abbrev pub IsLeafOf : Part → Typ → Type 0
IsLeafOf p (TFree x s) = p ≡ fixed x s
IsLeafOf p (TVar x i s) = p ≡ variable x i s
IsLeafOf p (Con k ts) = ⊥

-- The node was put behind the others, and this is its number.
abbrev pub IsPut : (old new : List Part) → Part → ℕ → Type 0
IsPut old new p i = (new ≡ old ++ p ∷ []) × (i ≡ length old)

-- The arguments of each node stand before it.
abbrev pub AreBefore : List Part → Type 0
AreBefore parts = (i k : ℕ) (kids : List ℕ) → slice_get parts i ≡ Some (made k kids) → Each (λ kid. kid < i) kids

-- Nodes stay where they are, and where there are more, arguments stand before them still.
pub record IsGrown (old new : List Part) : Type 0 where
  pub keeps : (i : ℕ) (p : Part) → slice_get old i ≡ Some p → slice_get new i ≡ Some p
  pub before : AreBefore old → AreBefore new

-- The type has this node now.
pub record IsAdded (old new : List Part) (t : Typ) (i : ℕ) : Type 0 where
  pub grown : IsGrown old new
  pub stands : StandsFor new i t

-- The constructor with arguments that stand among the nodes has this node now.
pub record IsMadeAt (old new : List Part) (name : ℕ) (kids : List ℕ) (i : ℕ) : Type 0 where
  pub grown : Each (λ kid. kid < length old) kids → IsGrown old new
  pub stands : slice_get new i ≡ Some (made name kids)

-- The number behind each node is one of the same value.
abbrev pub KeepsValues : (v : ℕ → Typ) → List ℕ → Type 0
KeepsValues v numbers = (i : ℕ) → v i ≡ v (get_or numbers i i)

-- The couples have one value each.
abbrev pub AreCoupled : (v : ℕ → Typ) → List Couple → Type 0
AreCoupled v work = Each (λ c. v c.left ≡ v c.right) work

-- All of it is so with these values.
pub record IsKept (v : ℕ → Typ) (c : Classes) : Type 0 where
  pub parent : KeepsValues v c.parent.items
  pub shape : KeepsValues v c.shape.items
  pub work : AreCoupled v c.work.items

-- The couples of arguments were added to those that are left; or the nodes never have one value.
abbrev pub AreNodesMet : (p q : Part) → (old new : List Couple) → Bool → Type 0
AreNodesMet p q old new can = (A : Algebra) (v : ℕ → Typ) (t : Typ) → Fits A v p t → Fits A v q t → AreCoupled v old → MatchBool can (AreCoupled v new) ⊥

-- Two nodes were put into one class; or they never have one value.
abbrev pub AreJoined : List Part → (old new : Classes) → (i j : ℕ) → Bool → Type 0
AreJoined parts old new i j can = (A : Algebra) (v : ℕ → Typ) → FitsAll A parts v → IsKept v old → v i ≡ v j → MatchBool can (IsKept v new) ⊥

-- All couples were; or they never have one value.
abbrev pub AreClosed : List Part → (old new : Classes) → Bool → Type 0
AreClosed parts old new can = (A : Algebra) (v : ℕ → Typ) → FitsAll A parts v → IsKept v old → MatchBool can (IsKept v new) ⊥

-- what stands behind a node, the shape of a class, its rank, and what is asked of it
abbrev pub root_at : List ℕ → ℕ → ℕ
root_at roots i = get_or roots i i

abbrev pub shape_at : List Part → List ℕ → ℕ → Option Part
shape_at parts shapes r = slice_get parts (get_or shapes r r)

abbrev pub rank_at : List ℕ → ℕ → ℕ
rank_at ranks r = get_or ranks r 0

abbrev pub items_of : Option (Vec ℕ Global) → List ℕ
items_of None = []
items_of (Some classes) = classes.items

abbrev pub asked_at : List (Vec ℕ Global) → ℕ → List ℕ
asked_at asked r = items_of (slice_get asked r)

-- What is asked of nodes is met by these values.
abbrev pub AreDemanded : Algebra → (v : ℕ → Typ) → List Demand → Type 0
AreDemanded A v work = Each (λ d. IsOfClass A (v d.node) d.class) work

-- What the class asks of the node's arguments was added to what is left; or the node's value is never of it.
abbrev pub IsDemanding : Algebra → Part → (class : ℕ) → (old new : List Demand) → Bool → Type 0
IsDemanding A p c old new can = (v : ℕ → Typ) (t : Typ) → Fits A v p t → IsOfClass A t c → AreDemanded A v old → MatchBool can (AreDemanded A v new) ⊥

-- The same of a class that is asked of the node of a number.
abbrev pub IsAsking : Algebra → List Part → (roots shapes : List ℕ) → (node class : ℕ) → (old new : List Demand) → Bool → Type 0
IsAsking A parts roots shapes i c old new can = (v : ℕ → Typ) → FitsAll A parts v → KeepsValues v roots → KeepsValues v shapes → IsOfClass A (v i) c → AreDemanded A v old → MatchBool can (AreDemanded A v new) ⊥

-- The nodes never have values.
abbrev pub AreNeverMet : Algebra → List Part → (roots shapes : List ℕ) → Type 0
AreNeverMet A parts roots shapes = (v : ℕ → Typ) → FitsAll A parts v → KeepsValues v roots → KeepsValues v shapes → ⊥

-- The arguments of the class's shape have lesser ranks; one of them is of a class without a rank.
abbrev pub IsRankedAt : List Part → (roots shapes ranks : List ℕ) → ℕ → Type 0
IsRankedAt parts roots shapes ranks r = (k : ℕ) (kids : List ℕ) → shape_at parts shapes r ≡ Some (made k kids) → Each (λ kid. rank_at ranks (root_at roots kid) < rank_at ranks r) kids

abbrev pub HasUnranked : (roots ranks kids : List ℕ) → Type 0
HasUnranked roots ranks kids = AnyOf (λ kid. slice_get ranks (root_at roots kid) ≡ Some 0) kids

abbrev pub HasStuckKid : List Part → (roots shapes ranks : List ℕ) → ℕ → Type 0
HasStuckKid parts roots shapes ranks r = (k : ℕ) × (kids : List ℕ) × (shape_at parts shapes r ≡ Some (made k kids)) × HasUnranked roots ranks kids

-- The nodes are one fixed variable, or one constructor with arguments of the same classes.
abbrev pub AreSameHeads : (root : ℕ → ℕ) → (p q : Part) → Type 0
AreSameHeads root (fixed x s) q = q ≡ fixed x s
AreSameHeads root (variable x i s) q = ⊥
AreSameHeads root (made k kids) q = (others : List ℕ) × (q ≡ made k others) × (map root kids ≡ map root others)

abbrev pub AllAgree : List Part → (roots shapes : List ℕ) → List (Vec ℕ Global) → Type 0
AllAgree parts roots shapes asked = (i : ℕ) (p : Part) → slice_get parts i ≡ Some p → Agrees (root_at roots) (asked_at asked) (shape_at parts shapes (root_at roots i)) (root_at roots i) p

abbrev pub AllMet : Algebra → List Part → (roots shapes : List ℕ) → List (Vec ℕ Global) → Type 0
AllMet A parts roots shapes asked = (r c : ℕ) → IsIn c (asked_at asked r) → IsMet A (root_at roots) (asked_at asked) c (shape_at parts shapes r)

-- Nodes of one schematic variable have one value of this map.
abbrev pub AreOne : List Part → {B : Type 0} → (ℕ → B) → Type 0
AreOne parts f = (i j x k : ℕ) (s : List ℕ) → slice_get parts i ≡ Some (variable x k s) → slice_get parts j ≡ Some (variable x k s) → f i ≡ f j

-- The nodes have values, nodes of one variable one, and these two one; and they never have.
pub record HaveOneValue (A : Algebra) (parts : List Part) (i j : ℕ) : Type 0 where
  pub value : ℕ → Typ
  pub fits : FitsAll A parts value
  pub one : AreOne parts value
  pub same : value i ≡ value j

abbrev pub NeverHaveOneValue : Algebra → List Part → (i j : ℕ) → Type 0
NeverHaveOneValue A parts i j = (v : ℕ → Typ) → FitsAll A parts v → v i ≡ v j → ⊥

-- The variable's first node is of the class of this one.
abbrev pub IsKnownAt : BTreeMap Typ ℕ → (roots : List ℕ) → ℕ → Part → Type 0
IsKnownAt leaves roots i (fixed x s) = Unit {0}
IsKnownAt leaves roots i (variable x k s) = (first : ℕ) × (Some first ≡ lookup (is_at (typ_cmp (TVar x k s))) leaves.entries) × (root_at roots first ≡ root_at roots i)
IsKnownAt leaves roots i (made k kids) = Unit {0}

-- There are ranks and classes of types with which the classes of nodes show that there are values; nodes of one variable are of one class.
pub record AreCertain (A : Algebra) (parts : List Part) (roots shapes : List ℕ) : Type 0 where
  pub ranks : List ℕ
  pub asked : List (Vec ℕ Global)
  pub closed : IsClosed A parts (root_at roots) (shape_at parts shapes) (rank_at ranks) (asked_at asked)
  pub one : AreOne parts (root_at roots)
