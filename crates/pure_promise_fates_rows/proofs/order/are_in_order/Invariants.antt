use Rattle.std.proofs.Common.{map, take}
use Rattle.pure_promise_fates.specs.Entries.{AreEntries}
use Rattle.pure_promise_fates_rows.specs.Given.{seen_lemma}
use Rattle.pure_promise_fates_rows.proofs.order.are_in_order.Given as goal

abbrev pub invariant-loop-place : goal.invariant-loop-place
invariant-loop-place l = AreEntries (map seen_lemma (take l.place l.lemmas))
