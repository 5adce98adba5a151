use Rattle.pure_elab_laws.proofs.TypedLaws.{solve-constraints}
use Rattle.pure_elab_laws.proofs.typings.typings_solve_constraints.Goals as goal

pub returns : goal.returns
returns c = solve-constraints
