use Rattle.pure_tunify.proofs.MeantLaws.{procedure_is_meant as lemma}
use Rattle.pure_tunify.proofs.laws.procedure_is_meant.Goals as goal

pub returns : goal.returns
returns c = lemma
