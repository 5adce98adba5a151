use Rattle.pure_tunify.proofs.StepLaws.{failed_has_no_unifier as lemma}
use Rattle.pure_tunify.proofs.laws.failed_has_no_unifier.Goals as goal

pub returns : goal.returns
returns c = lemma
