use Rattle.pure_order.proofs.AlgebraLaws.{coregular-same}
use Rattle.pure_order.proofs.laws.coregular_of_same.Goals as goal

pub returns : goal.returns
returns c = coregular-same
