use Rattle.pure_policy.proofs.PolicyLaws.{words_heeded as law}
use Rattle.pure_policy.proofs.laws.words_are_heeded.Goals as goal

pub returns : goal.returns
returns c = law
