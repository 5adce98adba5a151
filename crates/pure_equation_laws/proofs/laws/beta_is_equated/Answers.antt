use Rattle.pure_equation_laws.proofs.ReductionLaws.{beta_step_is_equated, beta_sequences_are_equated, beta_normal_form_is_equated}
use Rattle.pure_equation_laws.proofs.laws.beta_is_equated.Goals as goal

pub returns-clause-step : goal.returns-clause-step
returns-clause-step c = beta_step_is_equated

pub returns-clause-sequence : goal.returns-clause-sequence
returns-clause-sequence c = beta_sequences_are_equated

pub returns-clause-normal : goal.returns-clause-normal
returns-clause-normal c = beta_normal_form_is_equated
