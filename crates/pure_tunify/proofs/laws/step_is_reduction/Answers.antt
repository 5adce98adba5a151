use Rattle.pure_tunify.proofs.StepLaws.{step_is_reduction as lemma}
use Rattle.pure_tunify.proofs.laws.step_is_reduction.Goals as goal

pub returns : goal.returns
returns c = lemma
