use Rattle.std.proofs.Common.{take}
use Rattle.pure_text.specs.Lists.{Each}
use Rattle.pure_definitions.specs.Terms.Bounds.{Occurs}
use Rattle.pure_theorem.proofs.fresh.first_with.Given as goal

-- it occurs in none of the terms so far
abbrev pub invariant-loop-place : goal.invariant-loop-place
invariant-loop-place l = Each (λ t. ¬ Occurs l.variable t) (take l.place l.terms)
