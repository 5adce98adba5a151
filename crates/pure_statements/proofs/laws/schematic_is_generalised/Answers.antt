use Rattle.pure_statements.proofs.JoinLaws.{schematic-is_generalised}
use Rattle.pure_statements.proofs.laws.schematic_is_generalised.Goals as goal

pub returns : goal.returns
returns c = schematic-is_generalised
