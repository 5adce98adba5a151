-- What the values of options and arguments mean.
use Rattle.std.specs.Prelude.{ℕ, ◌==◌, Bool, false, ◌&&◌, List, [], ◌∷◌, length, Option, Some, None, nat_le, option_map, if◌then◌else◌}
use Rattle.std.specs.List.{slice_split}
use Rattle.pure_grammar.specs.Tokens.Bytes.{dot}
use Rattle.pure_grammar.specs.Tokens.Token.{is_number, is_spelling}
use Rattle.pure_grammar.specs.Theories.Lexeme.{value_behind}
use Rattle.pure_lex.specs.Identifier.{is_identifier}
use Rattle.pure_words.specs.declared.job.CancelWord.{CancelWord}

abbrev pub comma : ℕ
comma = 44

abbrev pub colon : ℕ
colon = 58

-- one to nine digits, of which the first may be zeros
abbrev pub number_of : List ℕ → Option ℕ
number_of text = if is_number text then Some (value_behind 0 text) else None

-- the number, where it is at least `low` and at most `high`
abbrev pub within : ℕ → ℕ → Option ℕ → Option ℕ
within low high None = None
within low high (Some n) = if nat_le low n && nat_le n high then Some n else None

-- the texts between the bytes of this value
abbrev pub parts : ℕ → List ℕ → List (List ℕ)
parts separator text = slice_split (λ b. b == separator) text

-- A cancellation `G:N`, by the texts between its colons: an identifier and a number.
abbrev pub cancel_of : List (List ℕ) → Option CancelWord
cancel_of (group ∷ after ∷ []) =
    if is_identifier group then option_map (λ n. record { group = group; after = n }) (number_of after) else None
cancel_of _ = None

-- a cancellation before others, where both are in form
abbrev pub with_cancel : Option CancelWord → Option (List CancelWord) → Option (List CancelWord)
with_cancel (Some cancel) (Some cancels) = Some (cancel ∷ cancels)
with_cancel _ _ = None

-- each text is a cancellation
abbrev pub cancels_in : List (List ℕ) → Option (List CancelWord)
cancels_in [] = Some []
cancels_in (text ∷ texts) = with_cancel (cancel_of (parts colon text)) (cancels_in texts)

-- a letter, then letters, digits, `_` and `'`, at most 64 bytes; it may be a keyword
abbrev pub is_short_spelling : List ℕ → Bool
is_short_spelling text = is_spelling text && nat_le (length text) 64

-- two spellings
abbrev pub are_spellings : List (List ℕ) → Bool
are_spellings (theory ∷ base ∷ []) = is_short_spelling theory && is_short_spelling base
are_spellings _ = false

-- A qualified name `T.x`, by the texts between its dots: two spellings.
abbrev pub full_name_of : List ℕ → Option (List ℕ)
full_name_of text = if are_spellings (parts dot text) then Some text else None
