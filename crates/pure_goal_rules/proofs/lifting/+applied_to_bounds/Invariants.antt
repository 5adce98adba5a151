use Rattle.pure_goal_rules.proofs.lifting.+applied_to_bounds.Given as goal

abbrev pub decreases-applied_to_bounds : goal.decreases-applied_to_bounds
decreases-applied_to_bounds l = l.count
