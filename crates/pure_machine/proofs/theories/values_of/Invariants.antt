use Rattle.std.proofs.Common.{◌≡◌, take, map, Some}
use Rattle.pure_machine.specs.Step.{closed_values}
use Rattle.pure_machine.proofs.theories.values_of.Given as goal

-- these are the values of the parents so far
abbrev pub invariant-loop-number : goal.invariant-loop-number
invariant-loop-number g l = closed_values l.theories (take l.number-index l.numbers) ≡ Some (map (λ p. p.value) l.values.items)
