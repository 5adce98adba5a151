use Rattle.pure_tunify.proofs.StepLaws.{solved_is_most_general as lemma}
use Rattle.pure_tunify.proofs.laws.solved_is_most_general.Goals as goal

pub returns : goal.returns
returns c = lemma
