use Rattle.pure_unify_final.proofs.SearchLaws.{children_keep_solutions as law}
use Rattle.pure_unify_final.proofs.laws.children_keep_solutions.Goals as goal

pub returns : goal.returns
returns c = law
