use Rattle.std.proofs.Common.{◌≡◌, drop}
use Rattle.std.specs.Ordering.{nat_cmp}
use Rattle.std.specs.FinMap.{find}
use Rattle.pure_shared_maps.specs.Pairs.{joined}
use Rattle.pure_shared_maps.specs.View.{runs_of}
use Rattle.pure_shared_maps.proofs.runs.found_in.Given as goal

abbrev pub invariant-loop-pointer : goal.invariant-loop-pointer
invariant-loop-pointer g l = find nat_cmp l.key (joined (runs_of l.runs)) ≡ find nat_cmp l.key (joined (runs_of (drop l.pointer-index l.runs)))
