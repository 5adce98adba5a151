-- The arities of a constructor for the classes below a class, and the greatest of them.
use Rattle.std.specs.Prelude.{◌≡◌, ◌↔◌, ◌⊎◌, ℕ, List, [], ◌∷◌, ◌++◌}
use Rattle.pure_text.specs.Lists.{IsIn, Each, EachTwo}
use Rattle.pure_definitions.specs.Types.Order.{Class, Arity, Algebra, IsClassBelow, IsSortBelow, AreDomainsBelow}
use Rattle.pure_order_tables.specs.Classes.{IsDeclared}
use Rattle.pure_order_tables.specs.Others.{AreWithOthers}

-- A declared arity of the constructor k for a class below d.
pub record IsArityBelow (A : Algebra) (k d : ℕ) (q : Arity) : Type 0 where
  pub declared : IsIn q A.arities
  pub con : q.con ≡ k
  pub below : IsClassBelow A q.class d

-- A declared arity of k for a class below d whose domains are above those of all the others.
pub record IsGreatest (A : Algebra) (k d : ℕ) (q : Arity) : Type 0 where
  pub is : IsArityBelow A k d q
  pub above : (b : Arity) → IsArityBelow A k d b → AreDomainsBelow A b q

-- A declared arity of k for a class below d that is a greatest one, if there is a greatest one.
pub record IsGreatestIfAny (A : Algebra) (k d : ℕ) (q : Arity) : Type 0 where
  pub is : IsArityBelow A k d q
  pub above : (b : Arity) → IsGreatest A k d b → AreDomainsBelow A b q

-- The domains are above the greatest arity of k for classes below d, if there is a greatest one.
abbrev pub IsAboveGreatest : Algebra → ℕ → ℕ → List (List ℕ) → Type 0
IsAboveGreatest A k d domains = (b : Arity) → IsGreatest A k d b → EachTwo (IsSortBelow A) b.domains domains

-- The domains aren't above some arity of k for a class below d.
abbrev pub IsNotAbove : Algebra → ℕ → ℕ → List (List ℕ) → Type 0
IsNotAbove A k d domains = (b : Arity) × IsArityBelow A k d b × ¬ EachTwo (IsSortBelow A) b.domains domains

-- The classes that the arity names are declared.
pub record IsKnown (cs : List Class) (a : Arity) : Type 0 where
  pub domains : Each (Each (IsDeclared cs)) a.domains
  pub class : IsDeclared cs a.class

-- the algebra with one more class, and with one more arity
abbrev pub with_class : Algebra → Class → Algebra
with_class A k = record { classes = A.classes ++ k ∷ []; arities = A.arities }

abbrev pub with_arity : Algebra → Arity → Algebra
with_arity A a = record { classes = A.classes; arities = A.arities ++ a ∷ [] }

-- The third algebra declares what the first does, and then, in order, what the second declares and the first doesn't.
pub record IsUnionInOrder (A B U : Algebra) : Type 0 where
  pub classes : AreWithOthers A.classes B.classes U.classes
  pub arities : AreWithOthers A.arities B.arities U.arities

-- The third algebra is the union of the others: it declares what one of them declares.
pub record IsUnion (A B U : Algebra) : Type 0 where
  pub classes : (k : Class) → IsIn k U.classes ↔ (IsIn k A.classes ⊎ IsIn k B.classes)
  pub arities : (a : Arity) → IsIn a U.arities ↔ (IsIn a A.arities ⊎ IsIn a B.arities)
