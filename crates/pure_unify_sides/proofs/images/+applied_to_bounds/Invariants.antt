use Rattle.pure_unify_sides.proofs.images.+applied_to_bounds.Given as goal

abbrev pub decreases-applied_to_bounds : goal.decreases-applied_to_bounds
decreases-applied_to_bounds l = l.count
