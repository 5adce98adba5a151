use Rattle.pure_pattern_rules.proofs.applied.+applied_to_left.Given as goal

abbrev pub decreases-applied_to_left : goal.decreases-applied_to_left
decreases-applied_to_left l = l.count
