use Rattle.pure_declare.proofs.ChainLaws.{commands_keep}
use Rattle.pure_declare.proofs.laws.commands_keep.Goals as goal

pub returns : goal.returns
returns c = commands_keep
