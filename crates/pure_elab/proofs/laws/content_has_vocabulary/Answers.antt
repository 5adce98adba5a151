use Rattle.pure_elab.proofs.FoundLaws.{content_has_vocabulary as lemma}
use Rattle.pure_elab.proofs.laws.content_has_vocabulary.Goals as goal

pub returns : goal.returns
returns c = lemma
