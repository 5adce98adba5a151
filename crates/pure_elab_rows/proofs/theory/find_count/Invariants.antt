use Rattle.std.proofs.Common.{◌≡◌, drop}
use Rattle.pure_elab_rows.specs.Theory.{count_among}
use Rattle.pure_elab_rows.proofs.theory.find_count.Given as goal

-- what the rest of the table has is what the whole has
abbrev pub invariant-loop-entry : goal.invariant-loop-entry
invariant-loop-entry l = count_among (drop l.entry-index l.entries) l.fn.name ≡ count_among l.entries l.fn.name
