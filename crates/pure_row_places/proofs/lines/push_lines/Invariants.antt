use Rattle.std.proofs.Common.{◌≡◌, ◌++◌, drop, map}
use Rattle.pure_row_places.specs.Lines.{all_lines}
use Rattle.pure_row_places.specs.Scans.{seen_scan, seen_refusals}
use Rattle.pure_row_places.proofs.lines.push_lines.Given as goal

abbrev pub invariant-loop-theory : goal.invariant-loop-theory
invariant-loop-theory l =
    l.text.items ++ all_lines (map seen_scan (drop l.theory-index l.theories)) (seen_refusals l.refused) l.rest
    ≡ l.fn.text.items ++ all_lines (map seen_scan l.theories) (seen_refusals l.refused) l.rows
