use Rattle.pure_elab.proofs.AnswerLaws.{one_name_fault as lemma}
use Rattle.pure_elab.proofs.laws.one_name_fault.Goals as goal

pub returns : goal.returns
returns c = lemma
