-- Which tokens spell a record, and where they go wrong.
use Rattle.std.specs.Prelude.{◌≡◌, ◌↔◌, ℕ, Bool, false, List, [], ◌∷◌, ◌++◌, length, Option, Some, None, nat_lt, slice_range, if◌then◌else◌, codes}
use Rattle.std.specs.List.Sorted.{IsStrictlySortedBy}
use Rattle.std.specs.Ordering.{nat_cmp}
use Rattle.std.specs.Cmp.Lexicographic.{slice_cmp}
use Rattle.pure_text.specs.Lists.{IsIn, AnyOf}
use Rattle.pure_grammar.specs.declared.token.Token.{Token}
use Rattle.pure_grammar.specs.declared.token.TokenKind.{TokenKind}
use Rattle.pure_grammar.specs.declared.token.TokenKind.TheVariants as kind
use Rattle.pure_grammar.specs.Theories.Lexeme.{same}
use Rattle.pure_grammar.specs.Theories.Outer.{place_of}
use Rattle.pure_record.specs.Items.{Item}
use Rattle.pure_record.specs.Lines.{Node}
use Rattle.pure_record.specs.Lexemes.{lexemes, spelling}
use Rattle.pure_record.specs.Grammar.{IsRecord}
use Rattle.pure_record.specs.declared.lexeme.Lexeme.{Lexeme}
use Rattle.pure_record.specs.declared.record.RecordFault.{RecordFault}
use Rattle.pure_record.specs.declared.record.RecordFault.TheVariants.{TooLong, Syntax, Memory}

-- the text, if there is one, as a list
abbrev pub only : Option (List ℕ) → List (List ℕ)
only None = []
only (Some text) = text ∷ []

-- The texts of a record's names are exactly those that its tokens give, each once, in byte order.
pub record AreNamesOf (source : List ℕ) (tokens : List Token) (texts : List (List ℕ)) : Type 0 where
  pub ascend : IsStrictlySortedBy (slice_cmp nat_cmp) texts
  pub given : (text : List ℕ) → IsIn text texts ↔ AnyOf (λ token. spelling source token ≡ Some text) tokens

-- the token is `|`
abbrev pub is_bar_of : TokenKind → List ℕ → Bool
is_bar_of kind.Symbol bs = same bs (codes "|")
is_bar_of _ bs = false

abbrev pub is_bar : (source : List ℕ) → Token → Bool
is_bar source token = is_bar_of token.kind (slice_range source token.from token.to)

-- the runs of tokens between the tokens `|`
abbrev pub longer : Token → List (List Token) → List (List Token)
longer token [] = (token ∷ []) ∷ []
longer token (run ∷ runs) = (token ∷ run) ∷ runs

abbrev pub runs_of : (source : List ℕ) → List Token → List (List Token)
runs_of source [] = [] ∷ []
runs_of source (t ∷ ts) = if is_bar source t then ([] ∷ runs_of source ts) else longer t (runs_of source ts)

-- the place of the first token of the first run of more than 1,000 tokens
abbrev pub first_long : List (List Token) → Option ℕ
first_long [] = None
first_long ([] ∷ runs) = first_long runs
first_long ((t ∷ ts) ∷ runs) = if nat_lt 1000 (length (t ∷ ts)) then Some t.from else first_long runs

-- The tokens of the source spell the record of these names, items and lines, and no run of them is too long.
pub record SpellsRecord (source : List ℕ) (tokens : List Token) (texts : List (List ℕ)) (items : List Item) (lines : List Node) : Type 0 where
  pub names : AreNamesOf source tokens texts
  pub runs : first_long (runs_of source tokens) ≡ None
  pub spelled : IsRecord items lines (lexemes texts source tokens)

-- the list begins some record
abbrev pub BeginsRecord : List Lexeme → Type 0
BeginsRecord ls = (more : List Lexeme) × (items : List Item) × (lines : List Node) × IsRecord items lines (ls ++ more)

-- The list goes wrong at the lexeme `found`, in front of `rest`: the lexemes before it begin some record, and with it they begin none.
pub record GoesWrong (ls before : List Lexeme) (found : Lexeme) (rest : List Lexeme) : Type 0 where
  pub parts : ls ≡ before ++ found ∷ rest
  pub begins : BeginsRecord before
  pub stops : BeginsRecord (before ++ found ∷ []) → ⊥

-- The first fault of the tokens stands at the place `at`, where the end of the source has the place behind its last byte.
pub record HasSyntaxFault (source : List ℕ) (tokens : List Token) (at : ℕ) : Type 0 where
  pub texts : List (List ℕ)
  pub names : AreNamesOf source tokens texts
  pub before : List Lexeme
  pub found : Lexeme
  pub rest : List Lexeme
  pub wrong : GoesWrong (lexemes texts source tokens) before found rest
  pub at_place : at ≡ place_of tokens (length source) (length before)

-- What a fault says of its tokens. Want of memory says nothing.
abbrev pub IsFaultOf : (source : List ℕ) → List Token → RecordFault → Type 0
IsFaultOf source tokens (TooLong at) = first_long (runs_of source tokens) ≡ Some at
IsFaultOf source tokens (Syntax at) = (first_long (runs_of source tokens) ≡ None) × HasSyntaxFault source tokens at
IsFaultOf source tokens Memory = Unit {0}
