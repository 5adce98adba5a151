use Rattle.pure_solutions.proofs.SolutionLaws.{solved_by_long_forms, solved_by_same_images}
use Rattle.pure_solutions.proofs.laws.solved_pairs.Goals as goal

pub returns-clause-long : goal.returns-clause-long
returns-clause-long c = solved_by_long_forms

pub returns-clause-same : goal.returns-clause-same
returns-clause-same c = solved_by_same_images
