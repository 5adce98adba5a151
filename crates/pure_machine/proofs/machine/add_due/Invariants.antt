use Rattle.std.proofs.Common.{◌≡◌, ◌++◌, take}
use Rattle.pure_machine.specs.Policy.{due}
use Rattle.pure_machine.proofs.machine.add_due.Given as goal

-- the groups of the cancellations so far
abbrev pub invariant-loop-cancel : goal.invariant-loop-cancel
invariant-loop-cancel l = l.groups.items ≡ l.fn.groups.items ++ due (take l.cancel-index l.cancels) l.kept
