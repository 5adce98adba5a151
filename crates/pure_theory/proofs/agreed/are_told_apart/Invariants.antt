use Rattle.std.proofs.Common.{take}
use Rattle.pure_text.specs.Lists.{Each}
use Rattle.pure_theory.specs.Begin.{AreTold}
use Rattle.pure_theory.proofs.agreed.are_told_apart.Given as goal

-- those so far are told from all
abbrev pub invariant-loop-theory : goal.invariant-loop-theory
invariant-loop-theory l = Each (λ t. Each (AreTold t) l.theories) (take l.theory-index l.theories)
