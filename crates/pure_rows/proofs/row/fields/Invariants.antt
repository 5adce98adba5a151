use Rattle.std.proofs.Common.{◌≡◌, ◌++◌, map, drop}
use Rattle.std.specs.Prelude.{option_map}
use Rattle.pure_rows.specs.Escapes.{fields_of}
use Rattle.pure_rows.proofs.row.fields.Given as goal

abbrev pub invariant-loop-each : goal.invariant-loop-each
invariant-loop-each l =
    option_map (λ rest. map (λ field. field.items) l.fields.items ++ rest) (fields_of (map (λ part. part.now) (drop l.each-index l.written)))
    ≡ fields_of (map (λ part. part.now) l.written)
