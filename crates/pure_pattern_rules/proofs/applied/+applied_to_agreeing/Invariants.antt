use Rattle.pure_pattern_rules.proofs.applied.+applied_to_agreeing.Given as goal

abbrev pub decreases-applied_to_agreeing : goal.decreases-applied_to_agreeing
decreases-applied_to_agreeing l = l.count
