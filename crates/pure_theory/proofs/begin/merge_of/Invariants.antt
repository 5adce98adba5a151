use Rattle.std.proofs.Common.{take}
use Rattle.pure_text.specs.Lists.{Each}
use Rattle.pure_logic.specs.Beginning.{IsMerge}
use Rattle.pure_theory.specs.Stage.{IsSound}
use Rattle.pure_theory.specs.Begin.{contents}
use Rattle.pure_theory.proofs.begin.merge_of.Given as goal

-- the parents so far are merged, and sound
abbrev pub invariant-loop-place : goal.invariant-loop-place
invariant-loop-place l = IsMerge (take l.place (contents l.parents)) l.merged × Each IsSound (take l.place (contents l.parents))
