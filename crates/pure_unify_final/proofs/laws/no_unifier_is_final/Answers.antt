use Rattle.pure_unify_final.proofs.SearchLaws.{no_unifier_is_final as law}
use Rattle.pure_unify_final.proofs.laws.no_unifier_is_final.Goals as goal

pub returns : goal.returns
returns c = law
