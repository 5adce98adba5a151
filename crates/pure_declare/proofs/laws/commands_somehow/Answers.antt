use Rattle.pure_declare.proofs.PartSomeLaws.{commands_somehow}
use Rattle.pure_declare.proofs.laws.commands_somehow.Goals as goal

pub returns : goal.returns
returns c = commands_somehow
