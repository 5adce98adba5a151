use Rattle.std.proofs.Common.{◌≡◌, ◌<◌, ◌/◌, ℕ, map}
use Rattle.pure_promise_fates.specs.Entries.{Entry, Fault}
use Rattle.pure_promise_fates.specs.Reach.{IsAt}
use Rattle.pure_promise_fates.proofs.reach.width_of.Given as goal

abbrev pub invariant-loop-place : goal.invariant-loop-place
invariant-loop-place g l = (p : ℕ) (e : Entry) → IsAt (map g.E.Reported.entry l.entries) p e → e.own ≡ Fault → p < l.place → p / 64 < l.width
