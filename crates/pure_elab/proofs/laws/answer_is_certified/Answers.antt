use Rattle.pure_elab.proofs.CertifiedAnswerLaws.{answer_is_certified as lemma}
use Rattle.pure_elab.proofs.laws.answer_is_certified.Goals as goal

pub returns : goal.returns
returns c = lemma
