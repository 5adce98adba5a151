use Rattle.std.proofs.Common.{◌↔◌, ◌⊎◌, ◌<◌, ℕ}
use Rattle.pure_order_tables.specs.Rows.{Holds}
use Rattle.pure_table.specs.Promise.Seen.{seen}
use Rattle.pure_citations.specs.Cited.{HasNameAt}
use Rattle.pure_citations.proofs.cited.put_lemmas.Given as goal

abbrev pub invariant-loop-place : goal.invariant-loop-place
invariant-loop-place l = (p : ℕ) → Holds l.row.items p ↔ (((p < l.place) × HasNameAt (seen l.entries) l.name p) ⊎ Holds l.fn.row.items p)
