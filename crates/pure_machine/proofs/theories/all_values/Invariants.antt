use Rattle.std.proofs.Common.{◌≡◌, take, map, filter_map}
use Rattle.pure_machine.specs.Step.{value_of}
use Rattle.pure_machine.proofs.theories.all_values.Given as goal

-- the values of the theories so far
abbrev pub invariant-loop-theory : goal.invariant-loop-theory
invariant-loop-theory g l = map (λ p. p.value) l.values.items ≡ filter_map value_of (take l.theory-index l.theories)
