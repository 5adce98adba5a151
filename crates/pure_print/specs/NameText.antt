-- How names, indexes and sorts are printed.
use Rattle.std.specs.Prelude.{ℕ, ◌-◌, Bool, ◌&&◌, List, [], ◌∷◌, ◌++◌, length, codes, nat_eq, nat_le, if◌then◌else◌, slice_get, Option, Some, None}
use Rattle.std.specs.Option.{unwrap_or}
use Rattle.std.specs.Fmt.{decimal}
use Rattle.pure_typ.specs.NameTexts.{name_texts}
use Rattle.pure_grammar.specs.Tokens.Token.{is_spelling}

-- A name prints as its text. A name above the table, which has the texts of Pure and of the session, is a fresh one: it
-- prints as a mark and its number, counted from 0 at the first name above the table.
abbrev pub name_text : (mark : List ℕ) → (texts : List (List ℕ)) → (name : ℕ) → List ℕ
name_text mark texts name = unwrap_or (slice_get (name_texts texts) name) (mark ++ decimal (name - length (name_texts texts)))

-- The text of a name that has one, as that of a lemma or of what is declared; and nothing for one above the table.
abbrev pub text_of_name : (texts : List (List ℕ)) → (name : ℕ) → List ℕ
text_of_name texts name = unwrap_or (slice_get (name_texts texts) name) []

-- The marks of fresh names: `_v` in terms, and `'_` in types, where the apostrophe of a type variable is that of the mark.
abbrev pub fresh_term : List ℕ
fresh_term = codes "_v"

abbrev pub fresh_typ : List ℕ
fresh_typ = codes "'_"

abbrev pub fresh_variable : List ℕ
fresh_variable = codes "_"

-- the name of a constant or of a fixed variable
abbrev pub term_name_text : (texts : List (List ℕ)) → ℕ → List ℕ
term_name_text texts name = name_text fresh_term texts name

-- whether the text is a variable's spelling: a letter, then letters, digits, `_` and `'`, at most 64 bytes in all
abbrev pub is_variable : List ℕ → Bool
is_variable text = is_spelling text && nat_le (length text) 64

-- the text, where it is there and a variable's spelling, and else `_` and the number
abbrev pub spelled_or_numbered : (number : ℕ) → Option (List ℕ) → List ℕ
spelled_or_numbered number None = 95 ∷ decimal number
spelled_or_numbered number (Some text) = if is_variable text then text else 95 ∷ decimal number

-- the name of a schematic variable in a state of a proof
abbrev pub state_variable_text : (texts : List (List ℕ)) → ℕ → List ℕ
state_variable_text texts name = spelled_or_numbered name (slice_get (name_texts texts) name)

-- the name of a type constructor or of a class
abbrev pub typ_name_text : (texts : List (List ℕ)) → ℕ → List ℕ
typ_name_text texts name = name_text fresh_typ texts name

-- `'a`
abbrev pub typ_variable_text : (texts : List (List ℕ)) → ℕ → List ℕ
typ_variable_text texts name = 39 ∷ name_text fresh_variable texts name

-- nothing for the index 0, and else a dot and the index: `.3`
abbrev pub index_text : ℕ → List ℕ
index_text index = if nat_eq index 0 then [] else 46 ∷ decimal index

-- each class behind a comma
abbrev pub more_classes_text : (texts : List (List ℕ)) → List ℕ → List ℕ
more_classes_text texts [] = []
more_classes_text texts (c ∷ cs) = 44 ∷ (typ_name_text texts c ++ more_classes_text texts cs)

-- nothing for the sort of no class, and else `::c` or `::{c,d}`
abbrev pub sort_text : (texts : List (List ℕ)) → (sort : List ℕ) → List ℕ
sort_text texts [] = []
sort_text texts (c ∷ []) = codes "::" ++ typ_name_text texts c
sort_text texts (c ∷ d ∷ cs) = codes "::{" ++ (typ_name_text texts c ++ (more_classes_text texts (d ∷ cs) ++ codes "}"))
