use Rattle.std.proofs.Common.{◌≡◌, take, Some}
use Rattle.pure_machine.specs.Step.{closed_values}
use Rattle.pure_machine.proofs.theories.are_closed.Given as goal

-- the parents so far are closed
abbrev pub invariant-loop-number : goal.invariant-loop-number
invariant-loop-number g l = (cs : _) × (closed_values l.theories (take l.number-index l.numbers) ≡ Some cs)
