use Rattle.std.proofs.Common.{ℕ, ◌<◌}
use Rattle.pure_race.specs.Lanes.{IsBound, LaneLoses}
use Rattle.pure_race.proofs.races.settle.Given as goal

abbrev pub invariant-loop-lane : goal.invariant-loop-lane
invariant-loop-lane g l =
    IsBound (g.A.Attempts.wins l.fn.attempts) (g.A.Attempts.many l.fn.attempts) l.bound
    × ((i : ℕ) → i < l.lane → LaneLoses (g.A.Attempts.wins l.fn.attempts) l.fn.width i l.bound)
