use Rattle.std.proofs.Common.{◌≡◌, ◌++◌, drop, map}
use Rattle.pure_row_places.specs.Lines.{refused_lines}
use Rattle.pure_row_places.specs.Scans.{seen_refusal}
use Rattle.pure_row_places.proofs.lines.push_refused_files.Given as goal

abbrev pub invariant-loop-place : goal.invariant-loop-place
invariant-loop-place l =
    l.text.items ++ refused_lines (map seen_refusal (drop l.place l.refused)) (drop l.place l.rows)
    ≡ l.fn.text.items ++ refused_lines (map seen_refusal l.refused) l.rows
