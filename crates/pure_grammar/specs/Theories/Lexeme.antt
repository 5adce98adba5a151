-- What a token is to the grammar of theories.
use Rattle.std.specs.Prelude.{ℕ, ◌+◌, ◌-◌, ◌*◌, ◌==◌, Bool, false, Option, Some, None, List, [], ◌∷◌, nat_eq, slice_range, if◌then◌else◌, codes}
use Rattle.std.specs.Cmp.Lexicographic.{pointwise}
use Rattle.pure_grammar.specs.declared.token.Token.{Token}
use Rattle.pure_grammar.specs.declared.token.TokenKind.{TokenKind}
use Rattle.pure_grammar.specs.declared.token.TokenKind.TheVariants as kind
use Rattle.pure_grammar.specs.declared.lexeme.Keyword.{Keyword}
use Rattle.pure_grammar.specs.declared.lexeme.Keyword.TheVariants as keyword
use Rattle.pure_grammar.specs.declared.lexeme.Sign.{Sign}
use Rattle.pure_grammar.specs.declared.lexeme.Sign.TheVariants as sign
use Rattle.pure_grammar.specs.Theories.TheoryText.{Span}

-- A token by what the grammar tells apart and the tree keeps: a keyword, a sign, an identifier, a qualified name or a
-- type variable with its text and range, a number with its value, a quoted text with the range between its marks.
-- `Other` are the tokens that stand nowhere in the grammar, and `Ends` is the end of the source.
pub data Lexeme : Type 0 where
  Reserved : (word : Keyword) → Lexeme
  Signed : (sign : Sign) → Lexeme
  Plain : (text : List ℕ) → (at : Span) → Lexeme
  Dotted : (text : List ℕ) → (at : Span) → Lexeme
  Variable : (text : List ℕ) → (at : Span) → Lexeme
  Numeral : (value : ℕ) → Lexeme
  Quoted : (at : Span) → Lexeme
  Other : (kind : TokenKind) → Lexeme
  Ends : Lexeme

-- the kind of its token
abbrev pub kind_of : Lexeme → TokenKind
kind_of (Reserved word) = kind.Word
kind_of (Signed sign) = kind.Symbol
kind_of (Plain text at) = kind.Ident
kind_of (Dotted text at) = kind.Qualified
kind_of (Variable text at) = kind.TypeVar
kind_of (Numeral value) = kind.Number
kind_of (Quoted at) = kind.Quote
kind_of (Other k) = k
kind_of Ends = kind.End

-- two texts are the same bytes
abbrev pub same : List ℕ → List ℕ → Bool
same = pointwise nat_eq

-- the keyword of a proof that these bytes are
unfoldable pub proof_lexeme : List ℕ → Lexeme
proof_lexeme bs =
    if same bs (codes "apply") then Reserved keyword.Apply
    else (if same bs (codes "done") then Reserved keyword.Done
    else (if same bs (codes "by") then Reserved keyword.By
    else (if same bs (codes "prefer") then Reserved keyword.Prefer
    else (if same bs (codes "defer") then Reserved keyword.Defer
    else (if same bs (codes "have") then Reserved keyword.Have
    else Other kind.Word)))))

-- the keyword of a command or a proof that these bytes are
unfoldable pub command_lexeme : List ℕ → Lexeme
command_lexeme bs =
    if same bs (codes "class") then Reserved keyword.Class
    else (if same bs (codes "typedecl") then Reserved keyword.Typedecl
    else (if same bs (codes "arities") then Reserved keyword.Arities
    else (if same bs (codes "consts") then Reserved keyword.Consts
    else (if same bs (codes "axiomatization") then Reserved keyword.Axiomatization
    else (if same bs (codes "where") then Reserved keyword.Where
    else (if same bs (codes "and") then Reserved keyword.And
    else (if same bs (codes "definition") then Reserved keyword.Definition
    else (if same bs (codes "lemma") then Reserved keyword.Lemma
    else (if same bs (codes "theorem") then Reserved keyword.Theorem
    else proof_lexeme bs)))))))))

-- the keyword of these bytes
unfoldable pub word_lexeme : List ℕ → Lexeme
word_lexeme bs =
    if same bs (codes "theory") then Reserved keyword.Theory
    else (if same bs (codes "imports") then Reserved keyword.Imports
    else (if same bs (codes "begin") then Reserved keyword.Begin
    else (if same bs (codes "end") then Reserved keyword.End
    else (if same bs (codes "version") then Reserved keyword.Version
    else command_lexeme bs))))

-- the sign of these bytes
unfoldable pub symbol_lexeme : List ℕ → Lexeme
symbol_lexeme bs =
    if same bs (codes "<") then Signed sign.Less
    else (if same bs (codes ",") then Signed sign.Comma
    else (if same bs (codes ":") then Signed sign.Colon
    else (if same bs (codes "::") then Signed sign.DoubleColon
    else (if same bs (codes "(") then Signed sign.OpenParenthesis
    else (if same bs (codes ")") then Signed sign.CloseParenthesis
    else (if same bs (codes "{") then Signed sign.OpenBrace
    else (if same bs (codes "}") then Signed sign.CloseBrace
    else Other kind.Symbol)))))))

-- the value of digits, behind digits of the value `before`
abbrev pub value_behind : ℕ → List ℕ → ℕ
value_behind before [] = before
value_behind before (b ∷ bs) = value_behind (before * 10 + (b - 48)) bs

abbrev pub lexeme_of : TokenKind → List ℕ → Span → Lexeme
lexeme_of kind.Word bs at = word_lexeme bs
lexeme_of kind.Ident bs at = Plain bs at
lexeme_of kind.Qualified bs at = Dotted bs at
lexeme_of kind.TypeVar bs at = Variable bs at
lexeme_of kind.Schem bs at = Other kind.Schem
lexeme_of kind.BoundName bs at = Other kind.BoundName
lexeme_of kind.Number bs at = Numeral (value_behind 0 bs)
lexeme_of kind.Quote bs at = Quoted (record { from = at.from + 1; to = at.to - 1 })
lexeme_of kind.Symbol bs at = symbol_lexeme bs
lexeme_of kind.End bs at = Other kind.End

-- what a token of the source is to the grammar
abbrev pub lexeme : List ℕ → Token → Lexeme
lexeme source token = lexeme_of token.kind (slice_range source token.from token.to) (record { from = token.from; to = token.to })

-- the tokens of the source, and its end
abbrev pub lexemes : List ℕ → List Token → List Lexeme
lexemes source [] = Ends ∷ []
lexemes source (t ∷ ts) = lexeme source t ∷ lexemes source ts

-- a number for each keyword, and for each sign
abbrev pub keyword_number : Keyword → ℕ
keyword_number keyword.Theory = 0
keyword_number keyword.Imports = 1
keyword_number keyword.Begin = 2
keyword_number keyword.End = 3
keyword_number keyword.Class = 4
keyword_number keyword.Typedecl = 5
keyword_number keyword.Arities = 6
keyword_number keyword.Consts = 7
keyword_number keyword.Axiomatization = 8
keyword_number keyword.Where = 9
keyword_number keyword.And = 10
keyword_number keyword.Definition = 11
keyword_number keyword.Lemma = 12
keyword_number keyword.Theorem = 13
keyword_number keyword.Apply = 14
keyword_number keyword.Done = 15
keyword_number keyword.By = 16
keyword_number keyword.Prefer = 17
keyword_number keyword.Defer = 18
keyword_number keyword.Have = 19
keyword_number keyword.Version = 20

abbrev pub sign_number : Sign → ℕ
sign_number sign.Less = 0
sign_number sign.Comma = 1
sign_number sign.Colon = 2
sign_number sign.DoubleColon = 3
sign_number sign.OpenParenthesis = 4
sign_number sign.CloseParenthesis = 5
sign_number sign.OpenBrace = 6
sign_number sign.CloseBrace = 7

-- the lexeme is this keyword
abbrev pub is_word : Keyword → Lexeme → Bool
is_word word (Reserved found) = keyword_number found == keyword_number word
is_word word _ = false

-- the lexeme is this sign
abbrev pub is_sign : Sign → Lexeme → Bool
is_sign s (Signed found) = sign_number found == sign_number s
is_sign s _ = false

-- the lexeme is the identifier with this text
abbrev pub is_ident : List ℕ → Lexeme → Bool
is_ident text (Plain found at) = same found text
is_ident text _ = false

abbrev pub ident_in : Lexeme → Option (List ℕ)
ident_in (Plain text at) = Some text
ident_in _ = None

abbrev pub name_in : Lexeme → Option (List ℕ)
name_in (Plain text at) = Some text
name_in (Dotted text at) = Some text
name_in _ = None

abbrev pub variable_in : Lexeme → Option (List ℕ)
variable_in (Variable text at) = Some text
variable_in _ = None

abbrev pub number_in : Lexeme → Option ℕ
number_in (Numeral value) = Some value
number_in _ = None

abbrev pub quote_in : Lexeme → Option Span
quote_in (Quoted at) = Some at
quote_in _ = None

abbrev pub type_in : Lexeme → Option Span
type_in (Quoted at) = Some at
type_in (Plain text at) = Some at
type_in (Dotted text at) = Some at
type_in (Variable text at) = Some at
type_in _ = None
