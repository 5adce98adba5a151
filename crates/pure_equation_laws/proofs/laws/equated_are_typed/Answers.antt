use Rattle.pure_equation_laws.proofs.SidesLaws.{equated_are_typed}
use Rattle.pure_equation_laws.proofs.laws.equated_are_typed.Goals as goal

pub returns : goal.returns
returns c = equated_are_typed
