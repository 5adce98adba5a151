-- The rows of a table, each behind the file, line and column where its command stands.
use Rattle.std.specs.Prelude.{ℕ, ◌+◌, Bool, false, List, [], ◌∷◌, ◌++◌, length, take, drop, codes, Option, Some, None, if◌then◌else◌}
use Rattle.std.specs.Fmt.{decimal}
use Rattle.pure_grammar.specs.Theories.Lexeme.{same}
use Rattle.pure_lex.specs.Lines.{line_behind, column_behind}
use Rattle.pure_print.specs.declared.row.Row.{Row}
use Rattle.pure_print.specs.RowText.{row_text}
use Rattle.pure_places.specs.Parts.{Part, CommandParts, Parts}
use Rattle.pure_row_places.specs.Reasons.{theory_word, refuses_lemma, reason_place, failed_step, step_place, header_place}

-- a theory: its name, its source, and where its parts stand
pub record Theory : Type 0 where
  pub name : List ℕ
  pub source : List ℕ
  pub places : Parts ℕ

-- a file that is refused: its name, and, where its header is looked at, its theory
pub record Refusal : Type 0 where
  pub name : List ℕ
  pub theory : Option Theory

unfoldable pub file_mark : List ℕ
file_mark = codes ".thy:"

unfoldable pub row_mark : List ℕ
row_mark = codes ": "

-- the place of a file's beginning
unfoldable pub beginning : List ℕ
beginning = codes "1:1"

-- the line and the column of a place, both from 1, columns in bytes
abbrev pub place_text : (source : List ℕ) → (at : ℕ) → List ℕ
place_text source at = decimal (line_behind (take at source)) ++ (58 ∷ decimal (column_behind (take at source)))

-- `FILE.thy:L:C: ` and the row
abbrev pub line_text : (theory place : List ℕ) → Row → List ℕ
line_text theory place row = theory ++ (file_mark ++ (place ++ (row_mark ++ row_text row)))

-- the first, if it is there
abbrev pub first_of : Option (List ℕ) → List ℕ → List ℕ
first_of (Some place) other = place
first_of None other = other

-- the place that the reason names, or that of the step that failed, or that of the name
abbrev pub command_place : (source : List ℕ) → Part ℕ → Row → List ℕ
command_place source p row = first_of (reason_place row) (place_text source (step_place p (failed_step row)))

-- the place in the theory's header of which its reason speaks
abbrev pub theory_place : Theory → Row → List ℕ
theory_place t row = first_of (reason_place row) (place_text t.source (header_place t.places row.tail))

-- of a refused file the place that the reason names, or that in its header, or its beginning
abbrev pub refused_place : Option Theory → Row → List ℕ
refused_place (Some t) row = theory_place t row
refused_place None row = first_of (reason_place row) beginning

-- The first row is that of this theory, which was refused.
abbrev pub is_barred : (theory : List ℕ) → List Row → Bool
is_barred theory [] = false
is_barred theory (row ∷ rows) = same row.head (theory_word ++ theory)

-- a row for each of these commands and haves
abbrev pub part_lines : Theory → List (Part ℕ) → List Row → List ℕ
part_lines t [] rows = []
part_lines t (p ∷ ps) [] = []
part_lines t (p ∷ ps) (row ∷ rows) = line_text t.name (command_place t.source p row) row ++ part_lines t ps rows

-- The first row refuses a lemma itself.
abbrev pub is_lemma_refused : List Row → Bool
is_lemma_refused [] = false
is_lemma_refused (row ∷ rows) = refuses_lemma row

-- the haves of a command that have rows: none where the lemma itself is refused
abbrev pub shown_haves : CommandParts ℕ → List Row → List (Part ℕ)
shown_haves c rows = if is_lemma_refused rows then [] else c.haves

-- the rows of a command: those of its haves, and its own
abbrev pub command_lines : Theory → CommandParts ℕ → List Row → List ℕ
command_lines t c rows = part_lines t (shown_haves c rows) rows ++ part_lines t (c.own ∷ []) (drop (length (shown_haves c rows)) rows)

-- what is left behind the rows of a command
abbrev pub behind_command : CommandParts ℕ → List Row → List Row
behind_command c rows = drop (length (shown_haves c rows) + 1) rows

abbrev pub commands_lines : Theory → List (CommandParts ℕ) → List Row → List ℕ
commands_lines t [] rows = []
commands_lines t (c ∷ cs) rows = command_lines t c rows ++ commands_lines t cs (behind_command c rows)

abbrev pub behind_commands : List (CommandParts ℕ) → List Row → List Row
behind_commands [] rows = rows
behind_commands (c ∷ cs) rows = behind_commands cs (behind_command c rows)

abbrev pub barred_line : Theory → List Row → List ℕ
barred_line t [] = []
barred_line t (row ∷ rows) = line_text t.name (theory_place t row) row

-- the rows of a theory: a row of its own where it was refused, else those of its commands
abbrev pub theory_lines : Theory → List Row → List ℕ
theory_lines t rows = if is_barred t.name rows then barred_line t rows else commands_lines t t.places.commands rows

-- what is left behind its rows
abbrev pub behind_theory : Theory → List Row → List Row
behind_theory t rows = if is_barred t.name rows then drop 1 rows else behind_commands t.places.commands rows

-- a row for each file that is refused
abbrev pub refused_lines : List Refusal → List Row → List ℕ
refused_lines [] rows = []
refused_lines (f ∷ fs) [] = []
refused_lines (f ∷ fs) (row ∷ rows) = line_text f.name (refused_place f.theory row) row ++ refused_lines fs rows

-- the rows of the theories, in their order, and then those of the files that are refused
abbrev pub all_lines : List Theory → List Refusal → List Row → List ℕ
all_lines [] refused rows = refused_lines refused rows
all_lines (t ∷ ts) refused rows = theory_lines t rows ++ all_lines ts refused (behind_theory t rows)
