use Rattle.std.proofs.Common.{take}
use Rattle.pure_machine.specs.Parts.{IsScheduled}
use Rattle.pure_machine.proofs.schedule.put_all.Given as goal

-- the cancellations so far stand in their buckets
abbrev pub invariant-loop-cancel : goal.invariant-loop-cancel
invariant-loop-cancel l = IsScheduled (take l.cancel-index l.cancels) l.buckets
