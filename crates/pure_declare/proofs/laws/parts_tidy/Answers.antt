use Rattle.pure_declare.proofs.PartLaws.{parts_tidy}
use Rattle.pure_declare.proofs.laws.parts_tidy.Goals as goal

pub returns : goal.returns
returns c = parts_tidy
