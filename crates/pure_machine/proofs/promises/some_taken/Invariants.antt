use Rattle.std.proofs.Common.{◌≡◌, ◌≢◌, ◌<◌, ℕ, length, ◌-◌, Some, slice_get}
use Rattle.pure_machine.specs.State.{Taken}
use Rattle.pure_machine.proofs.promises.some_taken.Given as goal

-- no proof so far runs
abbrev pub invariant-loop-at : goal.invariant-loop-at
invariant-loop-at g l = (n : ℕ) → n < l.at → (p : _) → slice_get l.promises n ≡ Some p → p.standing ≢ Taken

abbrev pub decreases-loop-at : goal.decreases-loop-at
decreases-loop-at g l = length l.promises - l.at
