-- A table's text as it grows row by row, and its last line by the statuses of the rows.
use Rattle.std.specs.Prelude.{◌≡◌, ℕ, Bool, List, [], ◌∷◌, ◌++◌, codes, map, nat_eq}
use Rattle.std.specs.List.{flat_map, count_by}
use Rattle.std.specs.Fmt.{decimal}
use Rattle.pure_print.specs.declared.row.Row.{Row}
use Rattle.pure_print.specs.declared.row.RowStatus.{RowStatus}
use Rattle.pure_print.specs.declared.table.TableText.{TableText}
use Rattle.pure_print.specs.RowText.{row_text, status_text, status_place, statuses, total_text, theories_text}

-- The text is that of these rows, and the statuses are theirs.
pub record HoldsRows (table : TableText) (rows : List Row) : Type 0 where
  pub text_is : table.text.items ≡ flat_map row_text rows
  pub statuses_are : table.statuses.items ≡ map Row.status rows

-- whether the other status is this one
abbrev pub is_status : RowStatus → RowStatus → Bool
is_status status other = nat_eq (status_place other) (status_place status)

-- `, 1 proved`: how many of the given statuses are this one
abbrev pub status_count_text : (given : List RowStatus) → RowStatus → List ℕ
status_count_text given status = codes ", " ++ (decimal (count_by (is_status status) given) ++ (32 ∷ status_text status))

-- the last line of a table whose rows have the given statuses
abbrev pub statuses_line : (theories : ℕ) → (given : List RowStatus) → List ℕ
statuses_line theories given = total_text ++ (decimal theories ++ (theories_text ++ (flat_map (status_count_text given) statuses ++ 10 ∷ [])))
