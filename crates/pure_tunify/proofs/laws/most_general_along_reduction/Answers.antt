use Rattle.pure_tunify.proofs.StepLaws.{most_general_along as lemma}
use Rattle.pure_tunify.proofs.laws.most_general_along_reduction.Goals as goal

pub returns : goal.returns
returns c = lemma
