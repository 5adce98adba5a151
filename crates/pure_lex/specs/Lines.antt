-- Lines and columns, both counted from 1. A line ends at a line feed alone, and a column counts bytes.
use Rattle.std.specs.Prelude.{ℕ, ◌+◌, ◌==◌, Bool, not, List, count_by}
use Rattle.std.specs.List.{suffix_len}

abbrev pub is_line_feed : ℕ → Bool
is_line_feed b = b == 10

-- the line of the place behind these bytes
abbrev pub line_behind : List ℕ → ℕ
line_behind bytes = 1 + count_by is_line_feed bytes

-- its column: one more than the bytes behind the last line feed
abbrev pub column_behind : List ℕ → ℕ
column_behind bytes = 1 + suffix_len (λ b. not (is_line_feed b)) bytes
