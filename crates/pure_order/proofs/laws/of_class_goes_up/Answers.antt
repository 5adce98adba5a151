use Rattle.pure_definitions.proofs.OrderLaws.{of_class_up}
use Rattle.pure_order.proofs.laws.of_class_goes_up.Goals as goal

pub returns : goal.returns
returns c = of_class_up
