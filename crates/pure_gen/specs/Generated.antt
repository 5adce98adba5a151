-- Generated libraries: theories in a row, each with as many lemmas, whose kinds are drawn from a sequence of numbers.
use Rattle.std.specs.Prelude.{◌≡◌, ℕ, zero, suc, ◌+◌, ◌*◌, ◌/◌, ◌%◌, List, [], ◌∷◌, ◌++◌, map, codes}
use Rattle.std.specs.List.{flat_map, range_with_len}
use Rattle.std.specs.Fmt.{decimal}
use Rattle.pure_io.specs.declared.library.File.{File}

-- the number behind x in the sequence
abbrev pub next_number : ℕ → ℕ
next_number x = (75 * x + 74) % 65537

-- the number behind so many others, the first of which is `start`
abbrev pub number_behind : (start count : ℕ) → ℕ
number_behind start zero = start
number_behind start (suc n) = next_number (number_behind start n)

-- The lemmas are counted from 0 over all theories. Before each a number is drawn, and the lemma's kind is what is left of it when it is divided by 4.
abbrev pub kind_of : (start lemma : ℕ) → ℕ
kind_of start lemma = number_behind start (lemma + 1) % 4

-- theory number k is `G` and k in two digits
abbrev pub theory_name : ℕ → List ℕ
theory_name k = 71 ∷ (48 + k / 10) ∷ (48 + k % 10) ∷ []

-- lemma number i of its theory is `l` and i
abbrev pub lemma_name : ℕ → List ℕ
lemma_name i = 108 ∷ decimal i

-- the full name of a lemma, where each theory has so many
abbrev pub full_name : (lemmas lemma : ℕ) → List ℕ
full_name lemmas lemma = theory_name (lemma / lemmas) ++ (46 ∷ lemma_name (lemma % lemmas))

unfoldable pub by_itself : List ℕ
by_itself = codes "\"A ==> A\" by assumption\n"

unfoldable pub by_another : List ℕ
by_another = codes "\"A ==> B\" by assumption\n"

unfoldable pub by_rule : List ℕ
by_rule = codes "\"A ==> A\" by (rule "

unfoldable pub rule_end : List ℕ
rule_end = codes ")\n"

unfoldable pub by_reflexivity : List ℕ
by_reflexivity = codes "\"x == x\" by (rule Pure.refl)\n"

-- The statement that cites the lemma made before; the first lemma of all has none before it, and is proved by assumption.
abbrev pub citing_text : (lemmas lemma : ℕ) → List ℕ
citing_text lemmas zero = by_itself
citing_text lemmas (suc before) = by_rule ++ (full_name lemmas before ++ rule_end)

-- a lemma's statement and proof, by its kind
abbrev pub statement_text : (kind lemmas lemma : ℕ) → List ℕ
statement_text zero lemmas lemma = by_itself
statement_text (suc zero) lemmas lemma = by_another
statement_text (suc (suc zero)) lemmas lemma = citing_text lemmas lemma
statement_text (suc (suc (suc kind))) lemmas lemma = by_reflexivity

unfoldable pub lemma_text : List ℕ
lemma_text = codes "lemma "

unfoldable pub colon_text : List ℕ
colon_text = codes ": "

-- the line of a lemma of this kind
abbrev pub drawn_line : (kind lemmas lemma : ℕ) → List ℕ
drawn_line kind lemmas lemma = lemma_text ++ (lemma_name (lemma % lemmas) ++ (colon_text ++ statement_text kind lemmas lemma))

-- a lemma's line
abbrev pub lemma_line : (start lemmas lemma : ℕ) → List ℕ
lemma_line start lemmas lemma = drawn_line (kind_of start lemma) lemmas lemma

unfoldable pub theory_text : List ℕ
theory_text = codes "theory "

unfoldable pub imports_text : List ℕ
imports_text = codes " imports "

unfoldable pub pure_text : List ℕ
pure_text = codes "Pure"

unfoldable pub begin_text : List ℕ
begin_text = codes " begin\n"

unfoldable pub end_text : List ℕ
end_text = codes "end\n"

-- the first theory imports Pure, each other the one before
abbrev pub parent_name : ℕ → List ℕ
parent_name zero = pure_text
parent_name (suc before) = theory_name before

abbrev pub header : ℕ → List ℕ
header k = theory_text ++ (theory_name k ++ (imports_text ++ (parent_name k ++ begin_text)))

-- the text of theory number k
abbrev pub source : (start lemmas k : ℕ) → List ℕ
source start lemmas k = header k ++ (flat_map (lemma_line start lemmas) (range_with_len (k * lemmas) lemmas) ++ end_text)

unfoldable pub ending : List ℕ
ending = codes ".thy"

abbrev pub file_of : (start lemmas k : ℕ) → File
file_of start lemmas k = record { name = theory_name k ++ ending; text = source start lemmas k }

-- the files of the library
abbrev pub files_of : (start theories lemmas : ℕ) → List File
files_of start theories lemmas = map (file_of start lemmas) (range_with_len 0 theories)

-- Behind the old text stand the lines of theory number k, where x was drawn before its first lemma; and this number was drawn last.
abbrev pub AddsLines : (old new : List ℕ) → (x lemmas k last : ℕ) → Type 0
AddsLines old new x lemmas k last = (start : ℕ) → x ≡ number_behind start (k * lemmas)
    → (new ≡ old ++ flat_map (lemma_line start lemmas) (range_with_len (k * lemmas) lemmas)) × (last ≡ number_behind start ((k + 1) * lemmas))
