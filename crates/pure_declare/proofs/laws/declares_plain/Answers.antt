use Rattle.pure_declare.proofs.PlainLaws.{declares_plain}
use Rattle.pure_declare.proofs.laws.declares_plain.Goals as goal

pub returns : goal.returns
returns c = declares_plain
