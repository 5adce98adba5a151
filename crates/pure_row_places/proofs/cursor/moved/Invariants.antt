use Rattle.std.proofs.Common.{◌≡◌, ◌≤◌, ◌+◌, take}
use Rattle.pure_lex.specs.Lines.{line_behind, column_behind}
use Rattle.pure_row_places.proofs.cursor.moved.Given as goal

abbrev pub invariant-loop-place : goal.invariant-loop-place
invariant-loop-place l = (l.line ≡ line_behind (take l.place l.source)) × (l.column ≡ column_behind (take l.place l.source)) × (l.column ≤ l.place + 1)
