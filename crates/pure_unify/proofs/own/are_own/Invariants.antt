use Rattle.std.proofs.Common.{take}
use Rattle.pure_text.specs.Lists.{Each}
use Rattle.pure_unify_nodes.specs.Long.{IsLongPair}
use Rattle.pure_unify.proofs.own.are_own.Given as goal

abbrev pub invariant-loop-pair : goal.invariant-loop-pair
invariant-loop-pair l = Each IsLongPair (take l.pair-index l.pairs)
