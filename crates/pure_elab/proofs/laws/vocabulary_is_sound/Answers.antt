use Rattle.pure_elab.proofs.VocabularyLaws.{vocabulary_is_sound as lemma}
use Rattle.pure_elab.proofs.laws.vocabulary_is_sound.Goals as goal

pub returns : goal.returns
returns c = lemma
