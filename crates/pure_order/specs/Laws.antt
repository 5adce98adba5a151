-- Laws of the order of classes and sorts, of the types of a sort, and of the algebras of declarations.
use Rattle.std.specs.Prelude.{◌↔◌, ℕ, List, []}
use Rattle.pure_text.specs.Lists.{IsIn}
use Rattle.pure_definitions.specs.Types.Typ.{Typ}
use Rattle.pure_definitions.specs.Types.Order.{Class, Arity, Algebra, IsClassBelow, IsSortBelow, IsOfClass, IsOfSort, IsCoregular}
use Rattle.pure_definitions.specs.Terms.Subst.{typ_instance, IsSortRespecting}
use Rattle.pure_order_tables.specs.Classes.{Follows, IsAntisymmetric, of_classes}
use Rattle.pure_order.specs.Domains.{IsReduced}

-- What is below a class that is below another is below the other.
abbrev pub ClassBelowIsTransitive : Type 0
ClassBelowIsTransitive = (A : Algebra) (c d e : ℕ) → IsClassBelow A c d → IsClassBelow A d e → IsClassBelow A c e

-- A sort is below itself, and what is below a sort that is below another is below the other.
abbrev pub SortBelowIsReflexive : Type 0
SortBelowIsReflexive = (A : Algebra) (s : List ℕ) → IsSortBelow A s s

abbrev pub SortBelowIsTransitive : Type 0
SortBelowIsTransitive = (A : Algebra) (s r t : List ℕ) → IsSortBelow A s r → IsSortBelow A r t → IsSortBelow A s t

-- A type of a class is of each class above it, and a type of a sort is of each sort above it.
abbrev pub OfClassGoesUp : Type 0
OfClassGoesUp = (A : Algebra) (t : Typ) (c d : ℕ) → IsOfClass A t c → IsClassBelow A c d → IsOfClass A t d

abbrev pub OfSortGoesUp : Type 0
OfSortGoesUp = (A : Algebra) (t : Typ) (s r : List ℕ) → IsOfSort A t s → IsSortBelow A s r → IsOfSort A t r

-- A map that respects sorts makes of a type of a sort another type of that sort.
abbrev pub OfSortUnderMap : Type 0
OfSortUnderMap = (A : Algebra) (typs : Typ → Typ) → IsSortRespecting A typs → (t : Typ) (s : List ℕ) → IsOfSort A t s → IsOfSort A (typ_instance typs t) s

-- Where each class is declared once, and after those above it, no two classes are below each other.
abbrev pub DeclaredInOrderIsAntisymmetric : Type 0
DeclaredInOrderIsAntisymmetric = (cs : List Class) → Follows [] cs → IsAntisymmetric (of_classes cs)

-- Where no two classes are below each other, sorts that are below each other have the same classes once they are reduced.
abbrev pub ReducedIsOne : Type 0
ReducedIsOne = (A : Algebra) → IsAntisymmetric A → (s r u v : List ℕ) → IsSortBelow A s r → IsSortBelow A r s → IsReduced A s u → IsReduced A r v → (c : ℕ) → IsIn c u ↔ IsIn c v

-- The algebras have the same declarations, in any order and number.
pub record HaveSame (A B : Algebra) : Type 0 where
  pub classes : (k : Class) → IsIn k A.classes ↔ IsIn k B.classes
  pub arities : (a : Arity) → IsIn a A.arities ↔ IsIn a B.arities

-- What is below, what is of a sort, and whether an algebra is coregular rest on which declarations there are, and not on their order.
abbrev pub ClassBelowOfSame : Type 0
ClassBelowOfSame = (A B : Algebra) → HaveSame A B → (c d : ℕ) → IsClassBelow A c d ↔ IsClassBelow B c d

abbrev pub SortBelowOfSame : Type 0
SortBelowOfSame = (A B : Algebra) → HaveSame A B → (s r : List ℕ) → IsSortBelow A s r ↔ IsSortBelow B s r

abbrev pub OfSortOfSame : Type 0
OfSortOfSame = (A B : Algebra) → HaveSame A B → (t : Typ) (s : List ℕ) → IsOfSort A t s ↔ IsOfSort B t s

abbrev pub CoregularOfSame : Type 0
CoregularOfSame = (A B : Algebra) → HaveSame A B → IsCoregular A ↔ IsCoregular B
