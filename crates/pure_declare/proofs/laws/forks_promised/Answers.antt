use Rattle.pure_declare.proofs.BoundLaws.{forks_promised}
use Rattle.pure_declare.proofs.laws.forks_promised.Goals as goal

pub returns : goal.returns
returns c = forks_promised
