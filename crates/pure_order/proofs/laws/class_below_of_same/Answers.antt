use Rattle.pure_order.proofs.AlgebraLaws.{class_below-same}
use Rattle.pure_order.proofs.laws.class_below_of_same.Goals as goal

pub returns : goal.returns
returns c = class_below-same
