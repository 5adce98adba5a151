use Rattle.std.proofs.Common.{take}
use Rattle.pure_text.specs.Lists.{Each}
use Rattle.pure_unify_definitions.specs.Children.{IsFlexFlex}
use Rattle.pure_pairs.proofs.plain.are_flex_flex.Given as goal

-- those of the pairs so far are flexible
abbrev pub invariant-loop-pair : goal.invariant-loop-pair
invariant-loop-pair l = Each IsFlexFlex (take l.pair-index l.pairs)
