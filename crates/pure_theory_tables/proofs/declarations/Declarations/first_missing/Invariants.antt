use Rattle.std.proofs.Common.{take}
use Rattle.pure_text.specs.Lists.{IsIn, Each}
use Rattle.pure_theory_tables.proofs.declarations.Declarations.first_missing.Given as goal

-- those so far stand in the other list
abbrev pub invariant-loop-place : goal.invariant-loop-place
invariant-loop-place l = Each (λ d. IsIn d l.other) (take l.place l.self)
