use Rattle.pure_norm.proofs.BetaLaws.{normal_form-is_normal, normal_form-is_within}
use Rattle.pure_statements.proofs.ElaboratedLaws.{normal-certified}
use Rattle.pure_statements.proofs.normal.normalised.Goals as goal

pub returns-in-Ok-clause-normal : goal.returns-in-Ok-clause-normal
returns-in-Ok-clause-normal c = normal_form-is_normal c.args.t.now c.in-Ok.u c.in-Ok.ensures

pub returns-in-Ok-clause-within : goal.returns-in-Ok-clause-within
returns-in-Ok-clause-within c = normal_form-is_within c.args.t.now c.in-Ok.u c.in-Ok.ensures

pub returns-in-Ok-clause-certified : goal.returns-in-Ok-clause-certified
returns-in-Ok-clause-certified c = normal-certified c.args.t.now c.in-Ok.u c.in-Ok.ensures
