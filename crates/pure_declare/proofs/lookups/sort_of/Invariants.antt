use Rattle.std.proofs.Common.{take}
use Rattle.pure_elab.specs.Table.{IsSortOf}
use Rattle.pure_declare.proofs.lookups.sort_of.Given as goal

-- the sort of the classes so far
abbrev pub invariant-loop-class : goal.invariant-loop-class
invariant-loop-class l = IsSortOf (take l.class-index l.classes) l.sort
