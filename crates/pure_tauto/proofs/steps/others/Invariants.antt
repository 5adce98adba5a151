use Rattle.pure_kernel.specs.Texts.Lists.{IsIn}
use Rattle.pure_kernel.specs.Logic.Derivable.{Theorem}
use Rattle.pure_tauto.proofs.steps.others.Given as goal

abbrev pub invariant-loop-at : goal.invariant-loop-at
invariant-loop-at l = (x : Theorem) → IsIn x l.some.items → IsIn x l.known
