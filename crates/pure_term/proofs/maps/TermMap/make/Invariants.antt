use Rattle.std.proofs.Common.{◌≡◌, ◌++◌}
use Rattle.std.specs.Vec.Iter.{into_iter_items}
use Rattle.pure_term.proofs.maps.TermMap.make.Given as goal

-- The entries of the map and those that are left are those given.
abbrev pub invariant-loop-bind : goal.invariant-loop-bind
invariant-loop-bind l = l.made ++ into_iter_items l.bind-iterator ≡ l.fn.binds.items
