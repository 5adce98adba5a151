use Rattle.std.proofs.Common.{◌≡◌, ◌++◌}
use Rattle.std.specs.Vec.Iter.{into_iter_items}
use Rattle.pure_tunify.proofs.equation.pairs_of.Given as goal

-- The pairs so far and those of the equations that are left are those of all.
abbrev pub invariant-loop-equation : goal.invariant-loop-equation
invariant-loop-equation l = l.pairs.items ++ into_iter_items l.equation-iterator ≡ l.fn.equations.items
