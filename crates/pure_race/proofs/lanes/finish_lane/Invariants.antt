use Rattle.std.proofs.Common.{◌-◌}
use Rattle.pure_race.specs.Lanes.{IsInLane, LaneLoses}
use Rattle.pure_race.proofs.lanes.finish_lane.Given as goal

abbrev pub invariant-loop-number : goal.invariant-loop-number
invariant-loop-number g l = IsInLane l.fn.width l.fn.lane l.number × LaneLoses (g.A.Attempts.wins l.fn.attempts) l.fn.width l.fn.lane l.number

abbrev pub decreases-loop-number : goal.decreases-loop-number
decreases-loop-number g l = l.bound - l.number
