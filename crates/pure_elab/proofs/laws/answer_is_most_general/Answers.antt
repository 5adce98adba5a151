use Rattle.pure_elab.proofs.GeneralLaws.{answer_is_most_general as lemma}
use Rattle.pure_elab.proofs.laws.answer_is_most_general.Goals as goal

pub returns : goal.returns
returns c = lemma
