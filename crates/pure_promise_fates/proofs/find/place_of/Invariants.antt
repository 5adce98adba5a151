use Rattle.std.proofs.Common.{◌≡◌, ◌-◌, ◌≤◌, ℕ, length, map}
use Rattle.pure_promise_fates.specs.Entries.{Entry}
use Rattle.pure_promise_fates.specs.Reach.{IsAt}
use Rattle.pure_promise_fates.proofs.find.place_of.Given as goal

abbrev pub invariant-loop-low : goal.invariant-loop-low
invariant-loop-low g l = (l.high ≤ length l.entries) × (p : ℕ) × (e : Entry) × IsAt (map g.E.Reported.entry l.entries) p e × (e.label ≡ l.label) × (l.low ≤ p) × (p ≤ l.high)

abbrev pub decreases-loop-low : goal.decreases-loop-low
decreases-loop-low g l = l.high - l.low
