use Rattle.std.proofs.Common.{◌≡◌, ◌≢◌, ◌<◌, ℕ, length, ◌-◌, Some, slice_get}
use Rattle.pure_machine.specs.State.{Running}
use Rattle.pure_machine.proofs.theories.some_runs.Given as goal

-- no theory so far runs
abbrev pub invariant-loop-at : goal.invariant-loop-at
invariant-loop-at g l = (n : ℕ) → n < l.at → (q : _) → slice_get l.theories n ≡ Some q → (k : ℕ) → q ≢ Running k

abbrev pub decreases-loop-at : goal.decreases-loop-at
decreases-loop-at g l = length l.theories - l.at
