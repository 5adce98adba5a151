use Rattle.pure_declare.proofs.PartLaws.{part_forks_promised}
use Rattle.pure_declare.proofs.laws.part_forks_promised.Goals as goal

pub returns : goal.returns
returns c = part_forks_promised
