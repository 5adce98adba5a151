use Rattle.std.proofs.Common.{length, ◌-◌, ◌++◌, ◌+◌, drop}
use Rattle.pure_shared_maps.specs.View.{pairs_of}
use Rattle.pure_shared_maps.proofs.MergeLaws.{IsMerging}
use Rattle.pure_shared_maps.proofs.entries.merged.Given as goal

abbrev pub invariant-loop-of_first : goal.invariant-loop-of_first
invariant-loop-of_first g l = IsMerging (pairs_of l.first ++ pairs_of l.second) (pairs_of l.run.items) (drop l.of_first (pairs_of l.first)) (drop l.of_second (pairs_of l.second))

abbrev pub decreases-loop-of_first : goal.decreases-loop-of_first
decreases-loop-of_first g l = (length l.first - l.of_first) + (length l.second - l.of_second)
