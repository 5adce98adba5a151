use Rattle.pure_reduction.proofs.ParallelLaws.{beta_steps_are_confluent as confluent}
use Rattle.pure_norm.proofs.laws.beta_steps_are_confluent.Goals as goal

pub returns : goal.returns
returns c = confluent
