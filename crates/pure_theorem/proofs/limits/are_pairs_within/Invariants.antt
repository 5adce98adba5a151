use Rattle.std.proofs.Common.{take}
use Rattle.pure_text.specs.Lists.{Each}
use Rattle.pure_theorem.specs.Within.{IsPairWithin}
use Rattle.pure_theorem.proofs.limits.are_pairs_within.Given as goal

-- the pairs so far are within the limits
abbrev pub invariant-loop-pair : goal.invariant-loop-pair
invariant-loop-pair l = Each IsPairWithin (take l.pair-index l.pairs)
