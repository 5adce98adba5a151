use Rattle.pure_definitions.specs.Types.Order.{IsSortBelow}
use Rattle.pure_order.specs.Walk.{domain_at}
use Rattle.pure_order.proofs.WalkLaws.{AllBelow}
use Rattle.pure_order.proofs.walk.is_sort_of_domain.Given as goal

abbrev pub invariant-loop-place : goal.invariant-loop-place
invariant-loop-place l = AllBelow (λ place. IsSortBelow l.tables l.sort (domain_at l.tables place l.index)) l.places l.place
