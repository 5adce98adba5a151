use Rattle.std.proofs.Common.{ℕ, ◌/◌, ◌<◌}
use Rattle.pure_order_tables.specs.Rows.{Holds}
use Rattle.pure_promise_fates.proofs.rows.is_empty.Given as goal

abbrev pub invariant-loop-i : goal.invariant-loop-i
invariant-loop-i l = (place : ℕ) → place / 64 < l.i → ¬ Holds l.row place
