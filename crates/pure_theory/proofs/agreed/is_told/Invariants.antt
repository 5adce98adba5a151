use Rattle.std.proofs.Common.{take}
use Rattle.pure_text.specs.Lists.{Each}
use Rattle.pure_theory.specs.Begin.{AreTold}
use Rattle.pure_theory.proofs.agreed.is_told.Given as goal

-- it is told from those so far
abbrev pub invariant-loop-other : goal.invariant-loop-other
invariant-loop-other l = Each (AreTold l.theory) (take l.other-index l.theories)
