use Rattle.std.proofs.Common.{take}
use Rattle.pure_text.specs.Lists.{Each}
use Rattle.pure_inst.specs.Named.{Lacks}
use Rattle.pure_inst.proofs.named.first_with_some.Given as goal

-- none is in the terms so far
abbrev pub invariant-loop-place : goal.invariant-loop-place
invariant-loop-place l = Each (Lacks l.tfrees l.frees) (take l.place l.terms)
