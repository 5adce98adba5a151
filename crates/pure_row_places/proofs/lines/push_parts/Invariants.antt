use Rattle.std.proofs.Common.{◌≡◌, ◌++◌, drop, map}
use Rattle.pure_places.specs.Seen.{seen_part}
use Rattle.pure_row_places.specs.Cursors.{IsAt}
use Rattle.pure_row_places.specs.Lines.{part_lines}
use Rattle.pure_row_places.specs.Scans.{seen_scan}
use Rattle.pure_row_places.proofs.lines.push_parts.Given as goal

abbrev pub invariant-loop-place : goal.invariant-loop-place
invariant-loop-place l =
    (l.text.items ++ part_lines (seen_scan l.theory) (map seen_part (drop l.place l.parts)) (drop l.place l.rows)
    ≡ l.fn.text.items ++ part_lines (seen_scan l.theory) (map seen_part l.parts) l.rows)
    × IsAt (seen_scan l.theory).source l.cursor
