-- A place in a source, with its line and its column.
use Rattle.std.specs.Prelude.{◌≡◌, ◌≤◌, ℕ, ◌+◌, List, length, take}
use Rattle.pure_lex.specs.Lines.{line_behind, column_behind}
use Rattle.pure_row_places.specs.declared.cursor.Cursor.{Cursor}

-- They are those of the place.
pub record IsAt (source : List ℕ) (c : Cursor) : Type 0 where
  pub within : c.at ≤ length source
  pub line : c.line ≡ line_behind (take c.at source)
  pub column : c.column ≡ column_behind (take c.at source)
  pub short : c.column ≤ c.at + 1
