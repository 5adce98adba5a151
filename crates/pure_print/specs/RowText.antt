-- How rows and the table are printed.
use Rattle.std.specs.Prelude.{ℕ, Bool, List, [], ◌∷◌, ◌++◌, codes, nat_eq}
use Rattle.std.specs.List.{flat_map, count_by}
use Rattle.std.specs.Fmt.{decimal}
use Rattle.pure_print.specs.declared.row.Row.{Row}
use Rattle.pure_print.specs.declared.row.RowStatus.{RowStatus}
use Rattle.pure_print.specs.declared.row.RowStatus.TheVariants.{Declared, Refused, Proved, Failed, Tainted, Cancelled, Unsettled}

unfoldable pub status_text : RowStatus → List ℕ
status_text Declared = codes "declared"
status_text Refused = codes "refused"
status_text Proved = codes "proved"
status_text Failed = codes "failed"
status_text Tainted = codes "tainted"
status_text Cancelled = codes "cancelled"
status_text Unsettled = codes "unsettled"

-- the status word, a blank, what stands behind it, a line feed
abbrev pub row_text : Row → List ℕ
row_text row = status_text row.status ++ (32 ∷ (row.head ++ (row.tail ++ 10 ∷ [])))

-- the statuses in the order of the last line
abbrev pub statuses : List RowStatus
statuses = Declared ∷ Refused ∷ Proved ∷ Failed ∷ Tainted ∷ Cancelled ∷ Unsettled ∷ []

-- the place of a status among them
abbrev pub status_place : RowStatus → ℕ
status_place Declared = 0
status_place Refused = 1
status_place Proved = 2
status_place Failed = 3
status_place Tainted = 4
status_place Cancelled = 5
status_place Unsettled = 6

abbrev pub has_status : RowStatus → Row → Bool
has_status status row = nat_eq (status_place row.status) (status_place status)

-- `, 1 proved`: how many rows have the status
abbrev pub count_text : List Row → RowStatus → List ℕ
count_text rows status = codes ", " ++ (decimal (count_by (has_status status) rows) ++ (32 ∷ status_text status))

unfoldable pub total_text : List ℕ
total_text = codes "total: "

unfoldable pub theories_text : List ℕ
theories_text = codes " theories"

-- the last line: the number of theory files, and of the rows of each status
abbrev pub total_line : (theories : ℕ) → List Row → List ℕ
total_line theories rows = total_text ++ (decimal theories ++ (theories_text ++ (flat_map (count_text rows) statuses ++ 10 ∷ [])))

-- the whole text: the rows, and the last line
abbrev pub table_text : (theories : ℕ) → List Row → List ℕ
table_text theories rows = flat_map row_text rows ++ total_line theories rows
