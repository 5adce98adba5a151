use Rattle.std.proofs.Common.{take}
use Rattle.pure_text.specs.Lists.{Each}
use Rattle.pure_definitions.specs.Declarations.Decl.{IsDeclaredClass}
use Rattle.pure_certify.proofs.typ.fault_of_sort.Given as goal

-- the classes so far are declared
abbrev pub invariant-loop-class : goal.invariant-loop-class
invariant-loop-class g l = Each (IsDeclaredClass (g.D.Tables.declarations l.tables)) (take l.class-index l.class-items)
