use Rattle.pure_race.specs.Lanes.{IsBound}
use Rattle.pure_race.proofs.races.least_won.Given as goal

abbrev pub invariant-loop-end : goal.invariant-loop-end
invariant-loop-end g l = IsBound (g.A.Attempts.wins l.fn.attempts) (g.A.Attempts.many l.fn.attempts) l.least
