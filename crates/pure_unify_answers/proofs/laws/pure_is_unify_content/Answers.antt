use Rattle.pure_unify_answers.proofs.PureLaws.{pure_is_unify_content}
use Rattle.pure_unify_answers.proofs.laws.pure_is_unify_content.Goals as goal

pub returns : goal.returns
returns c = pure_is_unify_content
