use Rattle.pure_equation_laws.proofs.ReductionLaws.{eta_step_is_equated, eta_reduct_is_equated, eta_normal_form_is_equated, eta_expansion_is_equated, long_form_is_equated}
use Rattle.pure_equation_laws.proofs.laws.eta_is_equated.Goals as goal

pub returns-clause-step : goal.returns-clause-step
returns-clause-step c = eta_step_is_equated

pub returns-clause-reduct : goal.returns-clause-reduct
returns-clause-reduct c = eta_reduct_is_equated

pub returns-clause-normal : goal.returns-clause-normal
returns-clause-normal c = eta_normal_form_is_equated

pub returns-clause-expansion : goal.returns-clause-expansion
returns-clause-expansion c = eta_expansion_is_equated

pub returns-clause-long : goal.returns-clause-long
returns-clause-long c = long_form_is_equated
