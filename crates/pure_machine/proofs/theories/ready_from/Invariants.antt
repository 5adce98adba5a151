use Rattle.std.proofs.Common.{length, ◌-◌, ◌+◌}
use Rattle.pure_machine.specs.Step.{NoneReadyBelow}
use Rattle.pure_machine.proofs.theories.ready_from.Given as goal

-- none so far is ready
abbrev pub invariant-loop-at : goal.invariant-loop-at
invariant-loop-at g l = NoneReadyBelow l.shape l.theories l.at

abbrev pub decreases-loop-at : goal.decreases-loop-at
decreases-loop-at g l = length l.theories + 1 - l.at
