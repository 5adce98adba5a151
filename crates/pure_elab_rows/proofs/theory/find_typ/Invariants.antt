use Rattle.std.proofs.Common.{◌≡◌, drop}
use Rattle.pure_elab_rows.specs.Theory.{typ_among}
use Rattle.pure_elab_rows.proofs.theory.find_typ.Given as goal

-- what the rest of the table has is what the whole has
abbrev pub invariant-loop-entry : goal.invariant-loop-entry
invariant-loop-entry l = typ_among (drop l.entry-index l.entries) l.fn.name ≡ typ_among l.entries l.fn.name
