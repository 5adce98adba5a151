use Rattle.std.proofs.Common.{map, take}
use Rattle.pure_promise_fates.specs.Entries.{AreEntries}
use Rattle.pure_promise.specs.Seen.{reported}
use Rattle.pure_promise_rows.proofs.order.are_in_order.Given as goal

abbrev pub invariant-loop-place : goal.invariant-loop-place
invariant-loop-place l = AreEntries (map reported (take l.place l.lemmas))
