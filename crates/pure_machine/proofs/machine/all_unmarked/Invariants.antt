use Rattle.std.proofs.Common.{◌≡◌, take, map, false}
use Rattle.pure_machine.proofs.machine.all_unmarked.Given as goal

-- so many groups aren't cancelled
abbrev pub invariant-loop-node : goal.invariant-loop-node
invariant-loop-node l = l.marks.items ≡ map (λ _. false) (take l.node-index l.shape)
