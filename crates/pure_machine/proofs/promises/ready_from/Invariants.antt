use Rattle.std.proofs.Common.{length, ◌-◌, ◌≤◌}
use Rattle.pure_machine.specs.Step.{NoPromiseReadyBelow}
use Rattle.pure_machine.proofs.promises.ready_from.Given as goal

-- none so far is ready
abbrev pub invariant-loop-at : goal.invariant-loop-at
invariant-loop-at g l = NoPromiseReadyBelow l.promises l.at × (l.at ≤ length l.promises)

abbrev pub decreases-loop-at : goal.decreases-loop-at
decreases-loop-at g l = length l.promises - l.at
