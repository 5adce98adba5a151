use Rattle.pure_places.proofs.FoundLaws.{as_many_commands}
use Rattle.pure_places.proofs.laws.as_many_commands.Goals as goal

pub returns : goal.returns
returns c = as_many_commands
