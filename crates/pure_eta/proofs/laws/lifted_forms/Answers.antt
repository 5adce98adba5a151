use Rattle.pure_eta.proofs.FormLaws.{steps_of_lift}
use Rattle.pure_eta.proofs.KeptLaws.{eta_normal_of_lift}
use Rattle.pure_eta.proofs.SaturatedLaws.{saturated-lift, parts-lift}
use Rattle.pure_eta.proofs.laws.lifted_forms.Goals as goal

pub returns-clause-steps : goal.returns-clause-steps
returns-clause-steps c = steps_of_lift

pub returns-clause-eta : goal.returns-clause-eta
returns-clause-eta c = eta_normal_of_lift

pub returns-clause-saturated : goal.returns-clause-saturated
returns-clause-saturated c = saturated-lift

pub returns-clause-parts : goal.returns-clause-parts
returns-clause-parts c = parts-lift
