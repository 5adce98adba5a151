use Rattle.std.proofs.Common.{take}
use Rattle.pure_elab.specs.Written.{classes_at}
use Rattle.pure_elab.specs.Table.{IsSortOf}
use Rattle.pure_elab.proofs.sorts.union_at.Given as goal

-- the sort of the classes so far
abbrev pub invariant-loop-entry : goal.invariant-loop-entry
invariant-loop-entry l = IsSortOf (classes_at (take l.entry-index l.written) l.fn.name) l.sort
