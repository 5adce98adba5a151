use Rattle.std.proofs.Common.{take}
use Rattle.pure_definitions.specs.Declarations.Decl.{IsDeclaredClass}
use Rattle.pure_theory_tables.proofs.declarations.Declarations.is_class_listed.Given as goal

-- the class isn't among those so far
abbrev pub invariant-loop-place : goal.invariant-loop-place
invariant-loop-place l = ¬ IsDeclaredClass (take l.place l.self) l.name
