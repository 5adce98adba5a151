use Rattle.pure_order.proofs.AlgebraLaws.{sort_below-same}
use Rattle.pure_order.proofs.laws.sort_below_of_same.Goals as goal

pub returns : goal.returns
returns c = sort_below-same
