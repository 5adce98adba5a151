use Rattle.std.proofs.Common.{take}
use Rattle.pure_text.specs.Lists.{Each}
use Rattle.pure_definitions.specs.Terms.Term.{IsWithin}
use Rattle.pure_theorem.proofs.limits.are_within.Given as goal

-- the terms so far are within the limits
abbrev pub invariant-loop-term : goal.invariant-loop-term
invariant-loop-term l = Each IsWithin (take l.term-index l.terms)
