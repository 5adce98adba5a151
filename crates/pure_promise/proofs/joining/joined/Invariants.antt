use Rattle.std.proofs.Common.{map}
use Rattle.pure_promise.specs.Seen.{reported}
use Rattle.pure_promise.proofs.FateLaws.{AreProvedBefore}
use Rattle.pure_promise.proofs.joining.joined.Given as goal

abbrev pub invariant-loop-place : goal.invariant-loop-place
invariant-loop-place l = AreProvedBefore (map reported l.entries) l.place l.labels.items
