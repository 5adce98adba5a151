use Rattle.pure_reduction.proofs.CommuteLaws.{steps_commute, untyped_steps_example}
use Rattle.pure_reduction.proofs.laws.typed_steps_commute.Goals as goal

pub returns-clause-typed : goal.returns-clause-typed
returns-clause-typed c = steps_commute

pub returns-clause-untyped : goal.returns-clause-untyped
returns-clause-untyped c = untyped_steps_example
