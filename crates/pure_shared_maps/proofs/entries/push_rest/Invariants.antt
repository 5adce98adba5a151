use Rattle.std.proofs.Common.{◌≡◌, ◌++◌, drop}
use Rattle.pure_shared_maps.specs.View.{pairs_of}
use Rattle.pure_shared_maps.proofs.entries.push_rest.Given as goal

abbrev pub invariant-loop-place : goal.invariant-loop-place
invariant-loop-place g l = pairs_of l.run.items ++ drop l.place (pairs_of l.entries) ≡ pairs_of l.fn.run.items ++ drop l.from (pairs_of l.entries)
