use Rattle.pure_declare.proofs.PartLaws.{part_forks_tidy}
use Rattle.pure_declare.proofs.laws.part_forks_tidy.Goals as goal

pub returns : goal.returns
returns c = part_forks_tidy
