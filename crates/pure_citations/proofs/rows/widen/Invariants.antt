use Rattle.std.proofs.Common.{◌≡◌, ◌↔◌, ℕ, length}
use Rattle.pure_order_tables.specs.Rows.{Holds}
use Rattle.pure_citations.proofs.rows.widen.Given as goal

abbrev pub invariant-loop-at : goal.invariant-loop-at
invariant-loop-at l = (length l.row.items ≡ l._at) × ((other : ℕ) → Holds l.row.items other ↔ Holds l.fn.row.items other)
