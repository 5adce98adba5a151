use Rattle.pure_reduction.proofs.StepLaws.{normal_order_step_is_step as law}
use Rattle.pure_reduction.proofs.laws.normal_order_steps.Goals as goal

pub returns : goal.returns
returns c = law
