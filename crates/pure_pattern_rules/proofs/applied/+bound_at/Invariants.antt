use Rattle.pure_pattern_rules.proofs.applied.+bound_at.Given as goal

abbrev pub decreases-bound_at : goal.decreases-bound_at
decreases-bound_at l = l.count
