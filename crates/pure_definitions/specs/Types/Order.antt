-- The order of classes and sorts, and the sorts of types (Isabelle/Isar Implementation manual, section 2.1).
use Rattle.std.specs.Prelude.{◌≡◌, ℕ, List, [], ◌∷◌}
use Rattle.pure_text.specs.Lists.{IsIn, Each, AnyOf, EachTwo}
use Rattle.pure_definitions.specs.Types.Typ.{Typ, TFree, TVar, Con, Typs, none, also}

-- a declared class, with the classes declared to be above it
pub record Class : Type 0 where
  pub name : ℕ
  pub above : List ℕ

-- A declared arity `con :: (domains) class`: applied to types of these sorts the constructor makes a type of this class.
pub record Arity : Type 0 where
  pub con : ℕ
  pub domains : List (List ℕ)
  pub class : ℕ

-- what is declared of classes: with each class its inclusions, and the arities
pub record Algebra : Type 0 where
  pub classes : List Class
  pub arities : List Arity

-- The inclusion of the first class in the second is declared.
abbrev pub IsInclusion : Algebra → ℕ → ℕ → Type 0
IsInclusion A c d = (k : Class) × IsIn k A.classes × (k.name ≡ c) × IsIn d k.above

-- Class c is below class d: it is d, or a path of declared inclusions leads from c to d.
pub data IsClassBelow (A : Algebra) : ℕ → ℕ → Type 0 where
  itself : {c : ℕ} → IsClassBelow A c c
  along : {c b d : ℕ} → IsInclusion A c b → IsClassBelow A b d → IsClassBelow A c d

-- Some class of the sort is below the class.
abbrev pub HasClassBelow : Algebra → List ℕ → ℕ → Type 0
HasClassBelow A s c = AnyOf (λ b. IsClassBelow A b c) s

-- Sort s is below sort r: each class of r has a class of s below it.
abbrev pub IsSortBelow : Algebra → List ℕ → List ℕ → Type 0
IsSortBelow A s r = Each (λ c. HasClassBelow A s c) r

-- The type is of the class: it is a variable whose sort has a class below it, or a constructor applied to types of the sorts of a declared arity for a class below it.
abbrev mutual
  pub IsOfClass : Algebra → Typ → ℕ → Type 0
  IsOfClass A (TFree x s) c = HasClassBelow A s c
  IsOfClass A (TVar x i s) c = HasClassBelow A s c
  IsOfClass A (Con k ts) c = (a : Arity) × IsIn a A.arities × (a.con ≡ k) × IsClassBelow A a.class c × AreOfSorts A ts a.domains

  -- There are as many types as sorts, and each type is of its sort.
  pub AreOfSorts : Algebra → Typs → List (List ℕ) → Type 0
  AreOfSorts A none [] = Unit {0}
  AreOfSorts A (also t ts) (s ∷ ss) = Each (λ c. IsOfClass A t c) s × AreOfSorts A ts ss
  AreOfSorts A _ _ = ⊥

-- The type is of the sort: of each of its classes.
abbrev pub IsOfSort : Algebra → Typ → List ℕ → Type 0
IsOfSort A t s = Each (λ c. IsOfClass A t c) s

-- The domains of the first arity are below those of the second, each below its own.
abbrev pub AreDomainsBelow : Algebra → Arity → Arity → Type 0
AreDomainsBelow A a b = EachTwo (IsSortBelow A) a.domains b.domains

-- An arity of a constructor for class d whose domains are above those of both arities.
pub record IsJoin (A : Algebra) (a b : Arity) (d : ℕ) (q : Arity) : Type 0 where
  pub declared : IsIn q A.arities
  pub con : q.con ≡ a.con
  pub class : IsClassBelow A q.class d
  pub first : AreDomainsBelow A a q
  pub second : AreDomainsBelow A b q

-- Two arities of one constructor are compatible where this holds: where the class of one is below that of the other, so are its domains;
-- and for each class above both of theirs there is a declared arity for a class below it, with domains above the domains of both. Otherwise they are in conflict.
-- The first part is the manual's condition. The second, this project's own, makes unifiers most general.
pub record AreCompatible (A : Algebra) (a b : Arity) : Type 0 where
  pub forth : IsClassBelow A a.class b.class → AreDomainsBelow A a b
  pub back : IsClassBelow A b.class a.class → AreDomainsBelow A b a
  pub joined : (d : ℕ) → IsClassBelow A a.class d → IsClassBelow A b.class d → (q : Arity) × IsJoin A a b d q

-- The algebra is coregular: each two declared arities of one constructor are compatible.
abbrev pub IsCoregular : Algebra → Type 0
IsCoregular A = (a b : Arity) → IsIn a A.arities → IsIn b A.arities → a.con ≡ b.con → AreCompatible A a b
