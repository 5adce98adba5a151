use Rattle.pure_order.proofs.AlgebraLaws.{of_sort-same}
use Rattle.pure_order.proofs.laws.of_sort_of_same.Goals as goal

pub returns : goal.returns
returns c = of_sort-same
