use Rattle.pure_declare.proofs.PartLaws.{parts_grow}
use Rattle.pure_declare.proofs.laws.parts_grow.Goals as goal

pub returns : goal.returns
returns c = parts_grow
