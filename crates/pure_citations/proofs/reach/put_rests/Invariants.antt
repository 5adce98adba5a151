use Rattle.std.proofs.Common.{◌↔◌, ◌⊎◌, ℕ, map, take}
use Rattle.pure_text.specs.Lists.{IsIn}
use Rattle.pure_order_tables.specs.Rows.{Holds}
use Rattle.pure_promise_fates.specs.Entries.{Entry}
use Rattle.pure_promise_fates.specs.Reach.{IsAt}
use Rattle.pure_citations.proofs.reach.put_rests.Given as goal

abbrev pub invariant-loop-label : goal.invariant-loop-label
invariant-loop-label g l = (p : ℕ) (e : Entry) → IsAt (map g.E.Reported.entry l.entries) p e → Holds l.row.items p ↔ (Holds l.fn.row.items p ⊎ IsIn e.label (take l.label-index l.rests))
