use Rattle.pure_norm.proofs.BetaLaws.{normal_under_lift as kept}
use Rattle.pure_norm.proofs.laws.normal_under_lift.Goals as goal

pub returns : goal.returns
returns c = kept
