use Rattle.std.proofs.Common.{◌≡◌, drop, map}
use Rattle.pure_places.specs.Seen.{seen_command}
use Rattle.pure_row_places.specs.Lines.{behind_commands}
use Rattle.pure_row_places.proofs.lines.behind_commands.Given as goal

abbrev pub invariant-loop-command : goal.invariant-loop-command
invariant-loop-command l = behind_commands (map seen_command (drop l.command-index l.commands)) l.rest ≡ behind_commands (map seen_command l.commands) l.rows
