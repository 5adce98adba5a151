use Rattle.std.proofs.Common.{◌≡◌, ◌++◌, map, take, drop, length}
use Rattle.pure_machine.specs.State.{cancelled_promise}
use Rattle.pure_machine.proofs.promises.cancel_all.Given as goal

-- those so far are cancelled, the others are as they were
abbrev pub invariant-loop-i : goal.invariant-loop-i
invariant-loop-i g l = (l.promises ≡ map (cancelled_promise l.groups) (take l.i l.fn.promises) ++ drop l.i l.fn.promises) × (length l.promises ≡ length l.fn.promises)
