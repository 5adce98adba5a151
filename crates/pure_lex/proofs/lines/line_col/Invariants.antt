use Rattle.std.proofs.Common.{◌≡◌, ◌≤◌, ◌+◌, take}
use Rattle.pure_lex.specs.Lines.{line_behind, column_behind}
use Rattle.pure_lex.proofs.lines.line_col.Given as goal

abbrev pub invariant-loop-b : goal.invariant-loop-b
invariant-loop-b l = (l.line ≡ line_behind (take l.b-index l.b-items)) × (l.column ≡ column_behind (take l.b-index l.b-items)) × (l.column ≤ l.b-index + 1)
