use Rattle.pure_declare.proofs.PartOnceLaws.{commands_once}
use Rattle.pure_declare.proofs.laws.commands_once.Goals as goal

pub returns : goal.returns
returns c = commands_once
