use Rattle.pure_declare.proofs.BoundLaws.{forks_bound}
use Rattle.pure_declare.proofs.laws.forks_bound.Goals as goal

pub returns : goal.returns
returns c = forks_bound
