use Rattle.pure_definitions.proofs.OrderLaws.{of_sort_up}
use Rattle.pure_order.proofs.laws.of_sort_goes_up.Goals as goal

pub returns : goal.returns
returns c = of_sort_up
