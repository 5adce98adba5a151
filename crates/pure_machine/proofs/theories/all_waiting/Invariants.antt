use Rattle.std.proofs.Common.{◌≡◌, take}
use Rattle.pure_machine.specs.State.{waiting}
use Rattle.pure_machine.proofs.theories.all_waiting.Given as goal

-- so many theories wait
abbrev pub invariant-loop-node : goal.invariant-loop-node
invariant-loop-node g l = l.list.items ≡ waiting (take l.node-index l.shape)
