use Rattle.std.proofs.Common.{◌≡◌, ◌++◌}
use Rattle.std.specs.Vec.Iter.{into_iter_items}
use Rattle.pure_pattern_laws.specs.Steps.{given_binds}
use Rattle.pure_pattern.proofs.given.given_of.Given as goal

abbrev pub invariant-loop-bind : goal.invariant-loop-bind
invariant-loop-bind l = l.given.items ++ given_binds l.pairs (into_iter_items l.bind-iterator) ≡ given_binds l.pairs l.fn.binds.items
