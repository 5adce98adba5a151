use Rattle.pure_unify_answers.proofs.SolveLaws.{unifier_solves}
use Rattle.pure_unify_answers.proofs.laws.unifier_solves.Goals as goal

pub returns : goal.returns
returns c = unifier_solves
