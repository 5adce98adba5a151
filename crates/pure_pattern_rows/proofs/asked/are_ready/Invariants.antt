use Rattle.std.proofs.Common.{take}
use Rattle.pure_text.specs.Lists.{Each}
use Rattle.pure_pattern_rows.specs.Sides.{IsReadyPair}
use Rattle.pure_pattern_rows.proofs.asked.are_ready.Given as goal

abbrev pub invariant-loop-pair : goal.invariant-loop-pair
invariant-loop-pair l = Each IsReadyPair (take l.pair-index l.pairs)
