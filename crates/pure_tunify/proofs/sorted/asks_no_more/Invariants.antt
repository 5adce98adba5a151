use Rattle.std.proofs.Common.{take}
use Rattle.pure_text.specs.Lists.{Each}
use Rattle.pure_definitions.specs.Types.Order.{IsSortBelow}
use Rattle.pure_tunify.proofs.sorted.asks_no_more.Given as goal

-- no more is asked of those so far
abbrev pub invariant-loop-one : goal.invariant-loop-one
invariant-loop-one l = Each (λ a. IsSortBelow l.order a.sort a.asked) (take l.one-index l.asked)
