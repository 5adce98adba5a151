use Rattle.std.proofs.Common.{take}
use Rattle.pure_text.specs.Lists.{Each}
use Rattle.pure_pattern_rules.specs.Treated.{AreSidesWithin}
use Rattle.pure_pattern.proofs.call.are_within.Given as goal

-- The pairs so far are within the limits.
abbrev pub invariant-loop-pair : goal.invariant-loop-pair
invariant-loop-pair l = Each AreSidesWithin (take l.pair-index l.pairs)
