use Rattle.pure_norm.proofs.BetaLaws.{step-keeps_type, step-keeps_certified, step-keeps_closed}
use Rattle.pure_norm.proofs.laws.step_keeps.Goals as goal

pub returns-clause-typ : goal.returns-clause-typ
returns-clause-typ c = step-keeps_type

pub returns-clause-certified : goal.returns-clause-certified
returns-clause-certified c = step-keeps_certified

pub returns-clause-closed : goal.returns-clause-closed
returns-clause-closed c = step-keeps_closed
