use Rattle.pure_pattern_laws.proofs.GeneralLaws.{no_unifier_is_final}
use Rattle.pure_pattern_laws.proofs.laws.no_unifier_is_final.Goals as goal

pub returns : goal.returns
returns c = no_unifier_is_final
