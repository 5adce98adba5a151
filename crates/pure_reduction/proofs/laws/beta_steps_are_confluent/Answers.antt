use Rattle.pure_reduction.proofs.ParallelLaws.{beta_steps_are_confluent, one_beta_normal_form}
use Rattle.pure_reduction.proofs.laws.beta_steps_are_confluent.Goals as goal

pub returns-clause-confluent : goal.returns-clause-confluent
returns-clause-confluent c = beta_steps_are_confluent

pub returns-clause-one : goal.returns-clause-one
returns-clause-one c = one_beta_normal_form
