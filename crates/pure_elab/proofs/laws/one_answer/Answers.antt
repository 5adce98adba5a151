use Rattle.pure_elab.proofs.AnswerLaws.{one_elab_answer, one_elab_typ_answer}
use Rattle.pure_elab.proofs.laws.one_answer.Goals as goal

pub returns-clause-term : goal.returns-clause-term
returns-clause-term c = one_elab_answer

pub returns-clause-typ : goal.returns-clause-typ
returns-clause-typ c = one_elab_typ_answer
