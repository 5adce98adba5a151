use Rattle.std.proofs.Common.{take}
use Rattle.pure_text.specs.Lists.{Each}
use Rattle.pure_definitions.specs.Types.Order.{IsOfSort}
use Rattle.pure_tunify.proofs.sorted.are_of_their_sorts.Given as goal

-- the images so far are of their sorts
abbrev pub invariant-loop-bind : goal.invariant-loop-bind
invariant-loop-bind l = Each (λ b. IsOfSort l.order b.image b.sort) (take l.bind-index l.bind-items)
