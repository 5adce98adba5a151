use Rattle.pure_try.proofs.FirstLaws.{tried_once}
use Rattle.pure_try.proofs.laws.tried_once.Goals as goal

pub returns : goal.returns
returns c = tried_once c.proof_in_lemma.ensures.once
