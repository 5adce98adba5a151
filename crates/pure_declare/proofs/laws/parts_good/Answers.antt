use Rattle.pure_declare.proofs.PartLaws.{parts_good}
use Rattle.pure_declare.proofs.laws.parts_good.Goals as goal

pub returns : goal.returns
returns c = parts_good
