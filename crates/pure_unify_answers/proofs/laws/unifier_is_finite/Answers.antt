use Rattle.pure_unify_answers.proofs.SolveLaws.{unifier_is_finite}
use Rattle.pure_unify_answers.proofs.laws.unifier_is_finite.Goals as goal

pub returns : goal.returns
returns c = unifier_is_finite
