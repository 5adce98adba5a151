use Rattle.std.proofs.Common.{◌≡◌, drop}
use Rattle.pure_machine.specs.State.{cancelled_promise}
use Rattle.pure_machine.specs.Parts.{all_changed}
use Rattle.pure_machine.proofs.promises.Promises.cancel_listed.Given as goal

-- what the numbers that are left make of the promises is what all make of those at the start
abbrev pub invariant-loop-number : goal.invariant-loop-number
invariant-loop-number g l = all_changed (cancelled_promise l.groups) l.self (drop l.number-index l.numbers) ≡ all_changed (cancelled_promise l.groups) l.fn.self l.numbers
