use Rattle.std.proofs.Common.{◌≡◌, drop}
use Rattle.pure_row_places.specs.Reasons.{front_value}
use Rattle.pure_row_places.proofs.reasons.front_value.Given as goal

abbrev pub invariant-loop-byte : goal.invariant-loop-byte
invariant-loop-byte l = front_value l.value (drop l.byte-index l.text) ≡ front_value 0 l.text
