use Rattle.pure_consistency.proofs.ConsistencyLaws.{pure_is_consistent, one_point_is_open}
use Rattle.pure_consistency.proofs.laws.pure_is_consistent.Goals as goal

pub returns-clause-any : goal.returns-clause-any
returns-clause-any c = pure_is_consistent

pub returns-clause-points : goal.returns-clause-points
returns-clause-points c = one_point_is_open
