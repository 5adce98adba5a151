use Rattle.std.proofs.Common.{take}
use Rattle.pure_elab.specs.Table.{HasVariable}
use Rattle.pure_elab.proofs.sorts.has_variable.Given as goal

-- none of the entries so far has it
abbrev pub invariant-loop-entry : goal.invariant-loop-entry
invariant-loop-entry l = ¬ HasVariable (take l.entry-index l.table) l.fn.name
