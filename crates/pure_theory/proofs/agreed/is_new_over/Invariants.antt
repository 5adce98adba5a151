use Rattle.std.proofs.Common.{take}
use Rattle.pure_text.specs.Lists.{Each}
use Rattle.pure_theory.specs.Begin.{IsNewBeside}
use Rattle.pure_theory.proofs.agreed.is_new_over.Given as goal

-- it is new beside those so far
abbrev pub invariant-loop-other : goal.invariant-loop-other
invariant-loop-other l = Each (IsNewBeside l.theory) (take l.other-index l.theories)
