use Rattle.pure_order.proofs.AlgebraLaws.{reduced_once}
use Rattle.pure_order.proofs.laws.reduced_is_one.Goals as goal

pub returns : goal.returns
returns c = reduced_once
