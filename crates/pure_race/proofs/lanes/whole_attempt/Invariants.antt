use Rattle.pure_race.proofs.lanes.whole_attempt.Given as goal

abbrev pub invariant-loop-trying : goal.invariant-loop-trying
invariant-loop-trying g l = g.A.Attempts.tries l.fn.attempts l.fn.number l.trying

abbrev pub decreases-loop-trying : goal.decreases-loop-trying
decreases-loop-trying g l = g.A.Attempts.steps_left l.trying
