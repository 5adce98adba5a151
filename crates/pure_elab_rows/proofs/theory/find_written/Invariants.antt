use Rattle.std.proofs.Common.{◌≡◌, drop}
use Rattle.pure_elab_rows.specs.Theory.{name_among}
use Rattle.pure_elab_rows.proofs.theory.find_written.Given as goal

-- what the rest of the table has is what the whole has
abbrev pub invariant-loop-entry : goal.invariant-loop-entry
invariant-loop-entry l = name_among (drop l.entry-index l.entries) l.text ≡ name_among l.entries l.text
