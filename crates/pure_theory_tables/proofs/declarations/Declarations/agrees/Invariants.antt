use Rattle.std.proofs.Common.{take}
use Rattle.pure_text.specs.Lists.{Each}
use Rattle.pure_theory_tables.specs.Agreement.{Fits}
use Rattle.pure_theory_tables.proofs.declarations.Declarations.agrees.Given as goal

-- those so far fit
abbrev pub invariant-loop-place : goal.invariant-loop-place
invariant-loop-place l = Each (Fits l.self) (take l.place l.other)
