use Rattle.pure_unify_laws.proofs.ReachedLaws.{unifier_is_reached}
use Rattle.pure_unify_laws.proofs.laws.unifier_is_reached.Goals as goal

pub returns : goal.returns
returns c = unifier_is_reached
