use Rattle.pure_unify_laws.proofs.OneSearch.{search_has_one_answer}
use Rattle.pure_unify_laws.proofs.laws.search_has_one_answer.Goals as goal

pub returns : goal.returns
returns c = search_has_one_answer
