use Rattle.std.proofs.Common.{◌≡◌, ◌++◌, drop}
use Rattle.pure_record.specs.Seen.{seen_lines}
use Rattle.pure_record_print.specs.Printed.{lines_text}
use Rattle.pure_record_print.proofs.line.push_lines.Given as goal

-- what is written, and the text of the lines that are left
abbrev pub invariant-loop-node : goal.invariant-loop-node
invariant-loop-node l = l.text.items ++ lines_text l.names (seen_lines (drop l.node-index l.lines)) ≡ l.initial.text.items ++ lines_text l.names (seen_lines l.lines)
