use Rattle.std.proofs.Common.{◌≡◌, ◌++◌}
use Rattle.std.specs.Vec.Iter.{into_iter_items}
use Rattle.pure_pattern.specs.Followed.{kept}
use Rattle.pure_pattern.proofs.step.push_all_given.Given as goal

abbrev pub invariant-loop-bind : goal.invariant-loop-bind
invariant-loop-bind l = l.binds.items ++ kept l.fn.maxidx (into_iter_items l.bind-iterator) ≡ l.fn.binds.items ++ kept l.fn.maxidx l.fn.new.items
