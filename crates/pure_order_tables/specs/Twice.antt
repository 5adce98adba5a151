-- The classes that are above several classes of a sort.
use Rattle.std.specs.Prelude.{◌≡◌, ◌↔◌, ◌/◌, ◌+◌, ◌<◌, ℕ, List, length}
use Rattle.pure_text.specs.Lists.{IsIn}
use Rattle.pure_definitions.specs.Types.Order.{Algebra, IsClassBelow, HasClassBelow}
use Rattle.pure_order_tables.specs.Rows.{Holds}
use Rattle.pure_order_tables.specs.ClassTable.{name_at}

-- Two classes of the sort, which differ, are below the class.
abbrev pub IsAboveTwo : Algebra → List ℕ → ℕ → Type 0
IsAboveTwo A s d = (b : ℕ) × (c : ℕ) × IsIn b s × IsIn c s × (¬ (b ≡ c)) × IsClassBelow A b d × IsClassBelow A c d

-- Of the numbers of classes the first row holds those of the classes above one of the sort, and the second those of the classes above two of it.
pub record AreRowsAbove (A : Algebra) (s once twice : List ℕ) : Type 0 where
  pub count : length once ≡ length A.classes / 64 + 1
  pub count_twice : length twice ≡ length A.classes / 64 + 1
  pub one : (n : ℕ) → n < length A.classes → Holds once n ↔ HasClassBelow A s (name_at A.classes n)
  pub two : (n : ℕ) → n < length A.classes → Holds twice n ↔ IsAboveTwo A s (name_at A.classes n)

-- The row holds, of the numbers of classes, those of the classes above two of the sort, if it isn't empty.
pub record IsTwiceRow (A : Algebra) (s words : List ℕ) : Type 0 where
  pub two : 0 < length words → (n : ℕ) → n < length A.classes → Holds words n ↔ IsAboveTwo A s (name_at A.classes n)
