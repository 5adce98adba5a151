-- What a token of each kind is, as a set of byte strings.
use Rattle.std.specs.Prelude.{ℕ, ◌+◌, ◌-◌, ◌==◌, Bool, false, not, ◌&&◌, ◌||◌, List, [], ◌∷◌, length, nat_lt, nat_le, nat_eq, if◌then◌else◌, Option, Some, None}
use Rattle.std.specs.List.{list_any, list_all}
use Rattle.std.specs.Cmp.Lexicographic.{pointwise}
use Rattle.std.specs.Prelude.{codes}
use Rattle.pure_grammar.specs.Tokens.Bytes.{dot, apostrophe, question_mark, underscore, quotation_mark, is_letter, is_digit, is_name_byte, is_empty, head_is, marked, behind}
use Rattle.pure_grammar.specs.declared.token.TokenKind.{TokenKind}
use Rattle.pure_grammar.specs.declared.token.TokenKind.TheVariants.{Word, Ident, Qualified, TypeVar, Schem, BoundName, Number, Quote, Symbol, End}

unfoldable pub keywords : List (List ℕ)
keywords =
    codes "theory" ∷ codes "imports" ∷ codes "begin" ∷ codes "end" ∷ codes "class" ∷ codes "typedecl" ∷ codes "arities"
    ∷ codes "consts" ∷ codes "axiomatization" ∷ codes "where" ∷ codes "and" ∷ codes "definition" ∷ codes "lemma"
    ∷ codes "theorem" ∷ codes "apply" ∷ codes "done" ∷ codes "by" ∷ codes "prefer" ∷ codes "defer" ∷ codes "have"
    ∷ codes "version" ∷ []

unfoldable pub is_keyword : List ℕ → Bool
is_keyword bs = list_any (λ word. pointwise nat_eq word bs) keywords

-- a letter, then letters, digits, `_` and `'`
abbrev pub is_spelling : List ℕ → Bool
is_spelling bs = head_is is_letter bs && is_empty (behind is_name_byte bs)

-- two spellings, joined by a dot
abbrev pub is_qualified : List ℕ → Bool
is_qualified bs = head_is is_letter bs && marked dot is_spelling (behind is_name_byte bs)

-- one to nine digits
abbrev pub is_number : List ℕ → Bool
is_number bs = list_all is_digit bs && (nat_le 1 (length bs) && nat_le (length bs) 9)

-- a spelling, with or without a dot and an index behind it
abbrev pub is_indexed : List ℕ → Bool
is_indexed bs = head_is is_letter bs && (is_empty (behind is_name_byte bs) || marked dot is_number (behind is_name_byte bs))

-- `?`, then `'` or not, then a spelling with or without an index
abbrev pub is_schematic : List ℕ → Bool
is_schematic bs = marked question_mark (λ name. is_indexed name || marked apostrophe is_indexed name) bs

-- any ASCII byte but the quotation mark
unfoldable pub is_quotable : ℕ → Bool
is_quotable b = nat_lt b 128 && not (b == quotation_mark)

-- a quotation mark, quotable bytes, a quotation mark
abbrev pub is_quote : List ℕ → Bool
is_quote bs = marked quotation_mark (λ text. marked quotation_mark is_empty (behind is_quotable text)) bs

unfoldable pub is_single : ℕ → Bool
is_single b = list_any (λ s. s == b) (codes "%.,;:()[]{}<|+")

-- `!!`, `==`, `=>`, `::`, `[|` and `|]`
unfoldable pub is_pair : ℕ → ℕ → Bool
is_pair b c =
    if b == 33 then (c == 33)
    else (if b == 61 then ((c == 61) || (c == 62))
    else (if b == 58 then (c == 58)
    else (if b == 91 then (c == 124)
    else (if b == 124 then (c == 93)
    else false))))

-- `==>`
unfoldable pub is_triple : ℕ → ℕ → ℕ → Bool
is_triple b c d = (b == 61) && ((c == 61) && (d == 62))

abbrev pub is_symbol : List ℕ → Bool
is_symbol [] = false
is_symbol (b ∷ []) = is_single b
is_symbol (b ∷ c ∷ []) = is_pair b c
is_symbol (b ∷ c ∷ d ∷ []) = is_triple b c d
is_symbol (b ∷ c ∷ d ∷ e ∷ bs) = false

-- The bytes are a token of this kind, where spellings may have any length: the limit on them is apart, so that a name
-- that is too long is a fault and not two tokens. Comments are no tokens. The end of the source has no bytes, so that it
-- is none either.
abbrev pub is_token : TokenKind → List ℕ → Bool
is_token Word bs = is_spelling bs && is_keyword bs
is_token Ident bs = is_spelling bs && not (is_keyword bs)
is_token Qualified bs = is_qualified bs
is_token TypeVar bs = marked apostrophe is_spelling bs
is_token Schem bs = is_schematic bs
is_token BoundName bs = marked underscore is_number bs
is_token Number bs = is_number bs
is_token Quote bs = is_quote bs
is_token Symbol bs = is_symbol bs
is_token End bs = false

-- the spelling at the front has more than 64 bytes
abbrev pub is_long : List ℕ → Bool
is_long bs = nat_lt (length (behind is_name_byte bs) + 64) (length bs)

abbrev pub tail : List ℕ → List ℕ
tail [] = []
tail (b ∷ bs) = bs

-- a token from its first identifier on, without the marks before it
abbrev pub first_identifier : TokenKind → List ℕ → List ℕ
first_identifier Word bs = bs
first_identifier Ident bs = bs
first_identifier Qualified bs = bs
first_identifier TypeVar bs = tail bs
first_identifier Schem bs = if head_is (λ b. b == apostrophe) (tail bs) then tail (tail bs) else tail bs
first_identifier _ bs = []

-- a token from its second identifier on
abbrev pub second_identifier : TokenKind → List ℕ → List ℕ
second_identifier Qualified bs = tail (behind is_name_byte bs)
second_identifier _ bs = []

-- Where in a token its first identifier of more than 64 bytes begins: the first one with the marks before it.
abbrev pub long_identifier : TokenKind → List ℕ → Option ℕ
long_identifier kind bs =
    if is_long (first_identifier kind bs) then Some 0
    else (if is_long (second_identifier kind bs) then Some (length bs - length (second_identifier kind bs))
    else None)
