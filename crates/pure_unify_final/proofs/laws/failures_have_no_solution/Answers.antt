use Rattle.pure_unify_final.proofs.FailLaws.{failures_have_no_solution as law}
use Rattle.pure_unify_final.proofs.laws.failures_have_no_solution.Goals as goal

pub returns : goal.returns
returns c = law
