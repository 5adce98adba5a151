-- The numbers of the classes above those of a sort.
use Rattle.std.specs.Prelude.{◌↔◌, ◌<◌, ℕ, List, length}
use Rattle.pure_text.specs.Lists.{AnyOf}
use Rattle.pure_definitions.specs.Types.Order.{Algebra, IsClassBelow}
use Rattle.pure_order_tables.specs.Rows.{Holds}
use Rattle.pure_order_tables.specs.Classes.{IsDeclared}
use Rattle.pure_order_tables.specs.ClassTable.{name_at}

-- The words hold, of the numbers below 4,096, those of the classes above a declared class of the sort.
abbrev pub AreUpWords : Algebra → List ℕ → List ℕ → Type 0
AreUpWords A s words = (n : ℕ) → n < 4096 → Holds words n ↔ ((n < length A.classes) × AnyOf (λ b. IsDeclared A.classes b × IsClassBelow A b (name_at A.classes n)) s)
