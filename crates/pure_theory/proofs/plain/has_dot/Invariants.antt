use Rattle.std.proofs.Common.{take}
use Rattle.pure_text.specs.Lists.{IsIn}
use Rattle.pure_theory.proofs.plain.has_dot.Given as goal

-- no dot so far
abbrev pub invariant-loop-byte : goal.invariant-loop-byte
invariant-loop-byte l = ¬ IsIn 46 (take l.byte-index l.text)
