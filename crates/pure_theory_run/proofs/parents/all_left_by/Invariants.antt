use Rattle.std.proofs.Common.{take}
use Rattle.pure_text.specs.Lists.{EachTwo}
use Rattle.pure_theory_run.specs.Outline.{outlines}
use Rattle.pure_theory_run.specs.Parents.{IsLeftBy}
use Rattle.pure_theory_run.proofs.parents.all_left_by.Given as goal

-- what those so far left
abbrev pub invariant-loop-index : goal.invariant-loop-index
invariant-loop-index l = EachTwo (IsLeftBy (outlines l.closed)) (take l.index-index l.indexes) (outlines l.values.items)
