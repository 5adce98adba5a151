use Rattle.pure_definitions.proofs.OrderLaws.{sort_below-itself}
use Rattle.pure_order.proofs.laws.sort_below_is_reflexive.Goals as goal

pub returns : goal.returns
returns c = sort_below-itself
