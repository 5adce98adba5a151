use Rattle.pure_resolve.proofs.shared.+taken_at.Given as goal

abbrev pub decreases-taken_at : goal.decreases-taken_at
decreases-taken_at l = l.place
