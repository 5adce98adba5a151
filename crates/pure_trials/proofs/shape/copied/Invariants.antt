use Rattle.std.proofs.Common.{◌≡◌, take}
use Rattle.pure_trials.proofs.shape.copied.Given as goal

abbrev pub invariant-loop-node : goal.invariant-loop-node
invariant-loop-node l = l.copy.items ≡ take l.node-index l.fn.shape
