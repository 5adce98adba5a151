use Rattle.pure_definitions.proofs.OrderLaws.{of_sort-instance}
use Rattle.pure_order.proofs.laws.of_sort_under_map.Goals as goal

pub returns : goal.returns
returns c = of_sort-instance
