-- The classes at which no arity covers an arity.
use Rattle.std.specs.Prelude.{◌≡◌, ◌↔◌, ◌<◌, ◌⊎◌, ℕ, List, length, get_or, Option, Some, None}
use Rattle.pure_text.specs.Lists.{IsIn, Each}
use Rattle.pure_definitions.specs.Types.Order.{Class, Arity, Algebra, IsClassBelow, AreDomainsBelow, IsCoregular}
use Rattle.pure_order_tables.specs.Rows.{Holds}
use Rattle.pure_order_tables.specs.ClassTable.{IsNumber, name_at}
use Rattle.pure_order_tables.specs.Arities.{IsArityBelow}

-- The row holds the numbers of the classes above the class.
abbrev pub IsUpRow : Algebra → ℕ → List ℕ → Type 0
IsUpRow V c words = (n : ℕ) → Holds words n ↔ ((n < length V.classes) × IsClassBelow V c (name_at V.classes n))

-- The first algebra has the classes of the second, and puts nothing more above what is above the class of an arity of the second.
pub record Extends (V B : Algebra) : Type 0 where
  pub classes : (k : Class) → IsIn k B.classes → IsIn k V.classes
  pub up : (q : Arity) (d e : ℕ) → IsIn q B.arities → IsClassBelow B q.class d → IsClassBelow V d e → IsClassBelow B q.class e

-- Some arity of B, of a's constructor and for a class below d, has domains above a's in the order of V: it covers a at d.
abbrev pub IsCoveredBy : Algebra → Algebra → Arity → ℕ → Type 0
IsCoveredBy V B a d = (q : Arity) × IsArityBelow B a.con d q × AreDomainsBelow V a q

-- The row holds the numbers of classes above a's: of all at which B doesn't cover a, and of no others where B is coregular.
pub record IsUncovered (V B : Algebra) (a : Arity) (row : List ℕ) : Type 0 where
  pub above : (n : ℕ) → Holds row n → (n < length V.classes) × IsClassBelow V a.class (name_at V.classes n)
  pub bare : IsCoregular B → (n : ℕ) → Holds row n → ¬ IsCoveredBy V B a (name_at V.classes n)
  pub rest : (n : ℕ) → n < length V.classes → IsClassBelow V a.class (name_at V.classes n) → Holds row n ⊎ IsCoveredBy V B a (name_at V.classes n)

-- The domains are below those of B's arity at the place, in the order of V; or, in A, above those of the arity there, if it is a place.
abbrev pub IsBelowPlace : Algebra → Algebra → Arity → Option ℕ → Type 0
IsBelowPlace V B a None = ⊥
IsBelowPlace V B a (Some p) = AreDomainsBelow V a (get_or B.arities p a)

abbrev pub IsAbovePlace : Algebra → Arity → Option ℕ → Type 0
IsAbovePlace A a None = Unit {0}
IsAbovePlace A a (Some p) = AreDomainsBelow A (get_or A.arities p a) a

-- It is a place of an arity of B, if it is a place.
abbrev pub IsWithinArities : Algebra → Option ℕ → Type 0
IsWithinArities B None = Unit {0}
IsWithinArities B (Some p) = p < length B.arities

-- The class is below one whose number the row holds.
abbrev pub IsBelowRow : Algebra → List ℕ → ℕ → Type 0
IsBelowRow A row c = (n : ℕ) × Holds row n × (n < length A.classes) × IsClassBelow A c (name_at A.classes n)

-- The declared arity b is clear of the new arity a, which isn't covered at the classes in the row: the first part of being compatible, and b is for a class below none of these, or a's domains are above b's.
pub record Clears (A : Algebra) (a : Arity) (row : List ℕ) (b : Arity) : Type 0 where
  pub forth : IsClassBelow A a.class b.class → AreDomainsBelow A a b
  pub back : IsClassBelow A b.class a.class → AreDomainsBelow A b a
  pub joined : (¬ IsBelowRow A row b.class) ⊎ AreDomainsBelow A b a

-- The arities of the constructor are for classes whose numbers the row doesn't hold.
abbrev pub AreElsewhere : Algebra → ℕ → List ℕ → List Arity → Type 0
AreElsewhere A k row = Each (λ b. b.con ≡ k → (n : ℕ) × IsNumber A.classes b.class n × ¬ Holds row n)
