use Rattle.std.proofs.Common.{◌≡◌, drop}
use Rattle.pure_row_places.specs.Reasons.{named_place}
use Rattle.pure_row_places.proofs.reasons.named_place.Given as goal

abbrev pub invariant-loop-place : goal.invariant-loop-place
invariant-loop-place l = named_place (drop l.place l.text) ≡ named_place l.text
