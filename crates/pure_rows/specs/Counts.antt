-- What a tally counts.
use Rattle.std.specs.Prelude.{◌≡◌, ℕ, ◌+◌, ◌-◌, ◌^◌, ◌==◌, min, Bool, true, false, not, List, [], ◌∷◌}
use Rattle.std.specs.List.{slice_split, count_by, AllByRecursion}
use Rattle.pure_rows.specs.Fields.{IsRow}
use Rattle.pure_rows.specs.declared.outcome.Outcome.{Outcome}
use Rattle.pure_rows.specs.declared.outcome.Outcome.TheVariants.{Holds}

pub record Counts : Type 0 where
  pub line : ℕ
  pub rows : ℕ
  pub failed : ℕ

-- one more, up to the greatest number of 64 bits
abbrev pub one_more : ℕ → ℕ
one_more n = min (n + 1) (2 ^ 64 - 1)

abbrev pub next_line : Counts → Counts
next_line c = record { line = one_more c.line; rows = c.rows; failed = c.failed }

-- one more row, which failed unless it holds
abbrev pub counted : Counts → Outcome → Counts
counted c Holds = record { line = c.line; rows = one_more c.rows; failed = c.failed }
counted c _ = record { line = c.line; rows = one_more c.rows; failed = one_more c.failed }

-- a line that is no row: it is empty or a comment
abbrev pub is_passed : List ℕ → Bool
is_passed [] = true
is_passed (byte ∷ bytes) = byte == 35

-- the lines of a text
abbrev pub lines_of : List ℕ → List (List ℕ)
lines_of text = slice_split (λ b. b == 10) text

-- how many of the lines are rows
abbrev pub row_count : List (List ℕ) → ℕ
row_count lines = count_by (λ line. not (is_passed line)) lines

-- the line is a row that can be read, unless it is none
abbrev pub IsRead : List ℕ → Type 0
IsRead line = is_passed line ≡ false → (fields : List (List ℕ)) × IsRow line fields

abbrev pub AreRead : List (List ℕ) → Type 0
AreRead lines = AllByRecursion IsRead lines
