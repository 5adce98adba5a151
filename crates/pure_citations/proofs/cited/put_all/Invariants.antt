use Rattle.std.proofs.Common.{◌↔◌, ◌⊎◌, ℕ, map}
use Rattle.pure_order_tables.specs.Rows.{Holds}
use Rattle.pure_table.specs.Promise.Seen.{reported}
use Rattle.pure_citations.specs.Cited.{IsNamedAt, IsBefore}
use Rattle.pure_citations.proofs.cited.put_all.Given as goal

abbrev pub invariant-loop-place : goal.invariant-loop-place
invariant-loop-place l = (n : ℕ) → Holds l.cited.items n ↔ (IsBefore (IsNamedAt l.names l.row (map (λ d. d.value) l.duties) (map reported l.entries) n) l.place ⊎ Holds l.fn.cited.items n)
