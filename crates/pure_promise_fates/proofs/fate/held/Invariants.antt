use Rattle.std.proofs.Common.{map}
use Rattle.pure_promise_fates.specs.Reach.{AreHeldBefore}
use Rattle.pure_promise_fates.proofs.fate.held.Given as goal

abbrev pub invariant-loop-place : goal.invariant-loop-place
invariant-loop-place g l = AreHeldBefore (map g.E.Reported.entry l.entries) l.row l.place l.faults.items
