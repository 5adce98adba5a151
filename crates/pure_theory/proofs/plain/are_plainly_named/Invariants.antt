use Rattle.std.proofs.Common.{take}
use Rattle.pure_text.specs.Lists.{Each}
use Rattle.pure_theory.specs.Plain.{IsPlainlyNamed}
use Rattle.pure_theory.proofs.plain.are_plainly_named.Given as goal

-- the texts of those so far are plain
abbrev pub invariant-loop-theory : goal.invariant-loop-theory
invariant-loop-theory l = Each (IsPlainlyNamed l.names) (take l.theory-index l.theories)
