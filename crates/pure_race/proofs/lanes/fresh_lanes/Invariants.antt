use Rattle.std.proofs.Common.{◌≡◌, length}
use Rattle.pure_race.specs.Lanes.{AreLanesFrom}
use Rattle.pure_race.proofs.lanes.fresh_lanes.Given as goal

abbrev pub invariant-loop-first : goal.invariant-loop-first
invariant-loop-first l = (length l.lanes.items ≡ l.first) × AreLanesFrom 0 l.lanes.items
