use Rattle.std.proofs.Common.{◌≡◌, ◌++◌, drop, map}
use Rattle.pure_places.specs.Seen.{seen_command}
use Rattle.pure_row_places.specs.Cursors.{IsAt}
use Rattle.pure_row_places.specs.Lines.{commands_lines}
use Rattle.pure_row_places.specs.Scans.{seen_scan}
use Rattle.pure_row_places.proofs.lines.push_commands.Given as goal

abbrev pub invariant-loop-command : goal.invariant-loop-command
invariant-loop-command l =
    (l.text.items ++ commands_lines (seen_scan l.theory) (map seen_command (drop l.command-index l.commands)) l.rest
    ≡ l.fn.text.items ++ commands_lines (seen_scan l.theory) (map seen_command l.commands) l.rows)
    × IsAt (seen_scan l.theory).source l.cursor
