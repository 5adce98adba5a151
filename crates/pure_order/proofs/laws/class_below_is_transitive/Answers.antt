use Rattle.pure_definitions.proofs.OrderLaws.{below-trans}
use Rattle.pure_order.proofs.laws.class_below_is_transitive.Goals as goal

pub returns : goal.returns
returns c = λ A c d e h k. below-trans h k
