-- The arities of two algebras that the other lacks, and the clashes among them.
use Rattle.std.specs.Prelude.{◌≡◌, ◌↔◌, ◌⊎◌, ℕ, List, [], min, max, Option, MatchOption}
use Rattle.pure_text.specs.Lists.{IsIn, Each, AnyOf}
use Rattle.pure_definitions.specs.Types.Order.{Arity, Algebra, IsCoregular}
use Rattle.pure_order_tables.specs.declared.conflicts.Exposed.{Exposed}
use Rattle.pure_order_tables.specs.Rows.{Holds}
use Rattle.pure_order_tables.specs.Classes.{Follows}
use Rattle.pure_order_tables.specs.ClassTable.{IsNumber}
use Rattle.pure_order_tables.specs.Arities.{IsKnown}
use Rattle.pure_order_tables.specs.Checks.{IsLeastConflict, IsNotAfter}
use Rattle.pure_order_tables.specs.Uncovered.{Extends, IsUncovered}

-- V has the classes of both coregular algebras, and puts nothing more above them.
pub record AreSides (V A B : Algebra) : Type 0 where
  pub ordered : Follows [] V.classes
  pub left : Extends V A
  pub right : Extends V B
  pub left_coregular : IsCoregular A
  pub right_coregular : IsCoregular B
  pub left_known : Each (IsKnown V.classes) A.arities
  pub right_known : Each (IsKnown V.classes) B.arities

-- This is of the arity: its constructor, its class, the number of the class, and the row of classes at which B doesn't cover it.
pub record IsExposed (V B : Algebra) (a : Arity) (e : Exposed) : Type 0 where
  pub con : a.con ≡ e.con
  pub class : a.class ≡ e.class
  pub number : IsNumber V.classes a.class e.number
  pub row : IsUncovered V B a e.row.items

-- These are of arities of A, and of all those that B lacks.
pub record AreExposed (V A B : Algebra) (es : List Exposed) : Type 0 where
  pub from : Each (λ e. (a : Arity) × IsIn a A.arities × IsExposed V B a e) es
  pub all : Each (λ a. IsIn a B.arities ⊎ AnyOf (IsExposed V B a) es) A.arities

-- The arities are of one constructor, and one isn't covered at the class of the other, or both aren't covered at one class.
abbrev pub Clash : Exposed → Exposed → Type 0
Clash e f = (e.con ≡ f.con) × (Holds e.row.items f.number ⊎ (Holds f.row.items e.number ⊎ ((n : ℕ) × Holds e.row.items n × Holds f.row.items n)))

-- the constructor of two such arities and their classes, the lesser first
abbrev pub names_in : Exposed → Exposed → ℕ × ℕ × ℕ
names_in e f = (e.con, min e.class f.class, max e.class f.class)

-- These are the names of two such arities that clash, and no other two's are before them.
pub record IsLeastClash (P : Exposed → Exposed → Type 0) (t : ℕ × ℕ × ℕ) : Type 0 where
  pub is : (e f : Exposed) × P e f × Clash e f × (t ≡ names_in e f)
  pub least : (e f : Exposed) → P e f → (¬ Clash e f) ⊎ IsNotAfter t.0 t.1 t.2 e.con (min e.class f.class) (max e.class f.class)

-- What a look for them finds.
abbrev pub FindsClash : (Exposed → Exposed → Type 0) → Option (ℕ × ℕ × ℕ) → Type 0
FindsClash P found = MatchOption found ((e f : Exposed) → P e f → ¬ Clash e f) (IsLeastClash P)

-- The arities are in these lists.
abbrev pub AreIn : List Exposed → List Exposed → Exposed → Exposed → Type 0
AreIn es fs e f = IsIn e es × IsIn f fs

-- These are the arities of both.
abbrev pub HasBoth : Algebra → Algebra → List Arity → Type 0
HasBoth A B bs = (a : Arity) → IsIn a bs ↔ (IsIn a A.arities ⊎ IsIn a B.arities)

-- the algebra with other arities
abbrev pub with_arities : Algebra → List Arity → Algebra
with_arities V bs = record { classes = V.classes; arities = bs }

-- Whatever list has the arities of both, with it the algebra is coregular, or this is its least conflict.
abbrev pub FindsConflict : Algebra → Algebra → Algebra → Option (ℕ × ℕ × ℕ) → Type 0
FindsConflict V A B found = (bs : List Arity) → HasBoth A B bs → MatchOption found (IsCoregular (with_arities V bs)) (λ f. IsLeastConflict (with_arities V bs) f.0 f.1 f.2)
