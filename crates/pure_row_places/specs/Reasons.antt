-- What a row's reason says of its place.
use Rattle.std.specs.Prelude.{ℕ, ◌+◌, ◌-◌, ◌*◌, Bool, true, false, ◌||◌, ◌&&◌, List, [], ◌∷◌, length, take, drop, codes, Option, Some, None, if◌then◌else◌, get_or, nat_eq, ◌==◌}
use Rattle.std.specs.Cmp.Lexicographic.{pointwise}
use Rattle.pure_grammar.specs.Tokens.Bytes.{is_digit}
use Rattle.pure_grammar.specs.Theories.Lexeme.{same}
use Rattle.pure_print.specs.declared.row.Row.{Row}
use Rattle.pure_print.specs.declared.row.RowStatus.{RowStatus}
use Rattle.pure_print.specs.declared.row.RowStatus.TheVariants.{Refused, Failed}
use Rattle.pure_places.specs.Parts.{Part, Import, Parts}

unfoldable pub at_word : List ℕ
at_word = codes " at "

unfoldable pub step_word : List ℕ
step_word = codes ": step "

unfoldable pub no_file_word : List ℕ
no_file_word = codes ": no file "

unfoldable pub parent_word : List ℕ
parent_word = codes ": parent refused "

unfoldable pub too_large : List ℕ
too_large = codes ": too large"

unfoldable pub too_many_files : List ℕ
too_many_files = codes ": too many files"

unfoldable pub theory_word : List ℕ
theory_word = codes "theory "

unfoldable pub lemma_word : List ℕ
lemma_word = codes "lemma "

-- the text begins so
abbrev pub begins : List ℕ → List ℕ → Bool
begins front text = pointwise nat_eq (take (length front) text) front

-- what stands behind the front, where the text begins so
abbrev pub behind : List ℕ → List ℕ → Option (List ℕ)
behind front text = if begins front text then Some (drop (length front) text) else None

-- the first, if it is there, else the other
abbrev pub first_some : Option (List ℕ) → Option (List ℕ) → Option (List ℕ)
first_some None other = other
first_some (Some text) other = Some text

-- the line and the column that a reason names, `syntax at 2:17`: what stands behind the first ` at `
abbrev pub named_place : List ℕ → Option (List ℕ)
named_place [] = None
named_place (b ∷ bs) = first_some (behind at_word (b ∷ bs)) (named_place bs)

abbrev pub is_refused : RowStatus → Bool
is_refused Refused = true
is_refused _ = false

abbrev pub is_failed : RowStatus → Bool
is_failed Failed = true
is_failed _ = false

-- The row refuses a lemma itself, and no have of it.
abbrev pub refuses_lemma : Row → Bool
refuses_lemma row = is_refused row.status && begins lemma_word row.head

-- the place that the row's reason itself names
abbrev pub reason_place : Row → Option (List ℕ)
reason_place row = if is_refused row.status then named_place row.tail else None

-- the value of the digits at the front, behind digits of the value `before`
abbrev pub front_value : (before : ℕ) → List ℕ → ℕ
front_value before [] = before
front_value before (b ∷ bs) = if is_digit b then front_value (before * 10 + (b - 48)) bs else before

-- what the value comes to, where it stands with this digit before more, or at its end
abbrev pub value_on : Option ℕ → (value : ℕ) → (more : List ℕ) → ℕ
value_on None value more = value
value_on (Some next) value more = front_value next more

abbrev pub value_in : Option (List ℕ) → ℕ
value_in None = 0
value_in (Some text) = front_value 0 text

-- the step that failed, of a row that says so, `step 3: no unifier`; else 0
abbrev pub failed_step : Row → ℕ
failed_step row = if is_failed row.status then value_in (behind step_word row.tail) else 0

-- the place of the step with this number, counted from 1; of step 0, that of the name
abbrev pub step_place : Part ℕ → (step : ℕ) → ℕ
step_place p step = if step == 0 then p.name else get_or p.steps (step - 1) p.name

-- the import that the reason of a refused theory or file names
abbrev pub import_named : (tail : List ℕ) → Option (List ℕ)
import_named tail = if begins no_file_word tail then behind no_file_word tail else behind parent_word tail

-- the first import of this theory, or the file's beginning where there is none
abbrev pub import_place : List (Import ℕ) → (theory : List ℕ) → ℕ
import_place [] theory = 0
import_place (i ∷ is) theory = if same i.theory theory then i.at else import_place is theory

-- the reason says something of the whole file
abbrev pub is_whole : (tail : List ℕ) → Bool
is_whole tail = same tail too_large || same tail too_many_files

abbrev pub header_place_by : Option (List ℕ) → Parts ℕ → (tail : List ℕ) → ℕ
header_place_by (Some theory) p tail = import_place p.imports theory
header_place_by None p tail = if is_whole tail then 0 else p.name

-- the place in a header that a reason speaks of: the first import that it names, or else the header's name; of the whole file its beginning
abbrev pub header_place : Parts ℕ → (tail : List ℕ) → ℕ
header_place p tail = header_place_by (import_named tail) p tail
