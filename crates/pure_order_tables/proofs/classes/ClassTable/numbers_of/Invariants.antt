use Rattle.std.proofs.Common.{◌≡◌, ◌+◌, ◌/◌, ◌<◌, ℕ, length, take}
use Rattle.pure_text.specs.Lists.{IsIn, Each}
use Rattle.pure_order_tables.specs.ClassTable.{IsNumber, name_at}
use Rattle.pure_order_tables.specs.Rows.{Holds}
use Rattle.pure_order_tables.proofs.classes.ClassTable.numbers_of.Given as goal

abbrev pub invariant-loop-class : goal.invariant-loop-class
invariant-loop-class l = record {
  count : length l.row.items ≡ length l.self / 64 + 1;
  only : (n : ℕ) → Holds l.row.items n → (n < length l.self) × IsIn (name_at l.self n) l.classes;
  each : Each (λ c. (n : ℕ) × IsNumber l.self c n × Holds l.row.items n) (take l.class-index l.classes);
}
