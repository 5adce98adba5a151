use Rattle.pure_norm.proofs.BetaLaws.{normal_form-keeps_type, normal_form-keeps_certified, normal_form-keeps_closed}
use Rattle.pure_norm.proofs.laws.normal_form_keeps.Goals as goal

pub returns-clause-typ : goal.returns-clause-typ
returns-clause-typ c = normal_form-keeps_type

pub returns-clause-certified : goal.returns-clause-certified
returns-clause-certified c = normal_form-keeps_certified

pub returns-clause-closed : goal.returns-clause-closed
returns-clause-closed c = normal_form-keeps_closed
