use Rattle.std.proofs.Common.{◌≡◌, ◌++◌, drop}
use Rattle.pure_rows.specs.Escapes.{place_at_end, all_found}
use Rattle.pure_rows.specs.declared.escapes.Place.TheVariants.{Plain}
use Rattle.pure_rows.proofs.escapes.unescaped.Given as goal

abbrev pub invariant-loop-byte : goal.invariant-loop-byte
invariant-loop-byte l = record {
  place : place_at_end l.place (drop l.byte-index l.written) ≡ place_at_end Plain l.written;
  found : l.bytes.items ++ all_found l.place (drop l.byte-index l.written) ≡ all_found Plain l.written;
}
