use Rattle.std.proofs.Common.{◌≡◌, length, map}
use Rattle.pure_promise_fates.specs.Reach.{AreReaches}
use Rattle.pure_promise_fates.proofs.reach.reaches.Given as goal

abbrev pub invariant-loop-place : goal.invariant-loop-place
invariant-loop-place g l = AreReaches (map g.E.Reported.entry l.entries) l.width l.reached.items × (length l.reached.items ≡ l.place)
