use Rattle.pure_declare.proofs.PartLaws.{part_forks_bound}
use Rattle.pure_declare.proofs.laws.part_forks_bound.Goals as goal

pub returns : goal.returns
returns c = part_forks_bound
