use Rattle.pure_declare.proofs.SomeLaws.{declares_somehow}
use Rattle.pure_declare.proofs.laws.declares_somehow.Goals as goal

pub returns : goal.returns
returns c = declares_somehow
