use Rattle.std.proofs.Common.{◌-◌, ◌≤◌, length}
use Rattle.pure_typ.specs.NameTexts.{name_texts}
use Rattle.pure_print.proofs.name.number_above.Given as goal

-- the table's length lies between them
abbrev pub invariant-loop-low : goal.invariant-loop-low
invariant-loop-low l = (l.low ≤ length (name_texts l.names)) × (length (name_texts l.names) ≤ l.high) × (l.high ≤ l.name)

abbrev pub decreases-loop-low : goal.decreases-loop-low
decreases-loop-low l = l.high - l.low
