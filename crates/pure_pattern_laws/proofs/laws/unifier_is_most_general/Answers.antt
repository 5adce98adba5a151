use Rattle.pure_pattern_laws.proofs.GeneralLaws.{unifier_is_most_general}
use Rattle.pure_pattern_laws.proofs.laws.unifier_is_most_general.Goals as goal

pub returns : goal.returns
returns c = unifier_is_most_general
