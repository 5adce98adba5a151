use Rattle.std.proofs.Common.{take}
use Rattle.pure_text.specs.Lists.{IsIn}
use Rattle.pure_theory_tables.specs.View.{decl_of}
use Rattle.pure_theory_tables.proofs.declarations.Declarations.is_listed.Given as goal

-- it isn't among those so far
abbrev pub invariant-loop-place : goal.invariant-loop-place
invariant-loop-place l = ¬ IsIn (decl_of l.entry) (take l.place l.self)
