use Rattle.std.proofs.Common.{take}
use Rattle.pure_text.specs.Lists.{Each}
use Rattle.pure_goal_steps.specs.State.{IsLeftPair}
use Rattle.pure_goal_rows.proofs.asked.are_left.Given as goal

abbrev pub invariant-loop-pair : goal.invariant-loop-pair
invariant-loop-pair l = Each IsLeftPair (take l.pair-index l.pairs)
