use Rattle.std.proofs.Common.{take}
use Rattle.pure_text.specs.Lists.{IsIn}
use Rattle.pure_lookup.proofs.find.theory_in.Given as goal

-- no dot so far
abbrev pub invariant-loop-at : goal.invariant-loop-at
invariant-loop-at l = ¬ IsIn 46 (take l.at l.text)
