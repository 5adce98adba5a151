use Rattle.pure_resolve.proofs.state.+has_premises.Given as goal

abbrev pub decreases-has_premises : goal.decreases-has_premises
decreases-has_premises l = l.count
