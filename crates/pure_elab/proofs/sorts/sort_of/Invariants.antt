use Rattle.std.proofs.Common.{◌≡◌, drop}
use Rattle.pure_elab.specs.Table.{sort_among}
use Rattle.pure_elab.proofs.sorts.sort_of.Given as goal

-- what the rest of the table has is what the whole has
abbrev pub invariant-loop-entry : goal.invariant-loop-entry
invariant-loop-entry l = sort_among (drop l.entry-index l.table) l.fn.name ≡ sort_among l.table l.fn.name
