use Rattle.std.proofs.Common.{◌≡◌, map, take}
use Rattle.pure_race.specs.declared.lanes.Lane.{Lane}
use Rattle.pure_race.proofs.lanes.ends_of.Given as goal

abbrev pub invariant-loop-lane : goal.invariant-loop-lane
invariant-loop-lane l = l.ends.items ≡ map (λ (lane : Lane). lane.end) (take l.lane-index l.lanes)
