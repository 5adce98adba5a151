use Rattle.std.proofs.Common.{◌≡◌, ◌++◌}
use Rattle.std.specs.Vec.Iter.{into_iter_items}
use Rattle.pure_unify.proofs.resolve.add_entries.Given as goal

abbrev pub invariant-loop-entry : goal.invariant-loop-entry
invariant-loop-entry l = l.typs ++ into_iter_items l.entry-iterator ≡ l.fn.typs ++ l.fn.entries.items
