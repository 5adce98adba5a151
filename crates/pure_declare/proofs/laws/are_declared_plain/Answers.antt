use Rattle.pure_declare.proofs.PlainLaws.{are_declared_plain}
use Rattle.pure_declare.proofs.laws.are_declared_plain.Goals as goal

pub returns : goal.returns
returns c = are_declared_plain
