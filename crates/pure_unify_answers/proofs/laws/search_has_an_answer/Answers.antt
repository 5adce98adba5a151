use Rattle.pure_unify_answers.proofs.AnswerLaws.{search_has_an_answer}
use Rattle.pure_unify_answers.proofs.laws.search_has_an_answer.Goals as goal

pub returns : goal.returns
returns c = search_has_an_answer
