use Rattle.pure_reduction.proofs.StepLaws.{steps_keep_type as law}
use Rattle.pure_reduction.proofs.laws.beta_steps_keep_type.Goals as goal

pub returns : goal.returns
returns c = law
