-- What stands at the front of a text.
use Rattle.std.specs.Prelude.{◌≡◌, ℕ, ◌<◌, ◌≤◌, Bool, true, false, ◌||◌, ◌==◌, List, [], ◌∷◌, ◌++◌, take, drop, length, if◌then◌else◌, None, Result, MatchResult}
use Rattle.std.specs.List.{list_all}
use Rattle.pure_grammar.specs.Tokens.Bytes.{dot, apostrophe, question_mark, underscore, quotation_mark, head_is, is_letter, is_digit, is_empty, marked}
use Rattle.pure_grammar.specs.Tokens.Comment.{Gap, IsSettled, is_comment}
use Rattle.pure_grammar.specs.Tokens.Token.{is_single, is_pair, is_triple, long_identifier, is_number, is_keyword}
use Rattle.pure_grammar.specs.Tokens.Spelling.{IsFirst, IsFault}
use Rattle.pure_grammar.specs.declared.token.TokenKind.{TokenKind}
use Rattle.pure_grammar.specs.declared.token.TokenKind.TheVariants.{Word, Ident}
use Rattle.pure_lex.specs.declared.front.Front.{Front}

-- the text is `here` and then `rest`, and `here` has `len` bytes
pub record IsCut (text here rest : List ℕ) (len : ℕ) : Type 0 where
  pub parts : text ≡ here ++ rest
  pub size : length here ≡ len
  pub within : len ≤ length text

-- the first `len` bytes pass the test, and the next one doesn't
pub record IsRun (test : ℕ → Bool) (text : List ℕ) (len : ℕ) : Type 0 where
  pub within : len ≤ length text
  pub all : list_all test (take len text) ≡ true
  pub next : head_is test (drop len text) ≡ false

-- the first `len` bytes are digits, and the next one isn't, unless these are nine
pub record IsDigits (text : List ℕ) (len : ℕ) : Type 0 where
  pub within : len ≤ length text
  pub all : list_all is_digit (take len text) ≡ true
  pub bound : len ≤ 9
  pub next : len < 9 → head_is is_digit (drop len text) ≡ false

-- the first `len` bytes are the blanks and comments at the front
pub record IsGap (text : List ℕ) (len : ℕ) : Type 0 where
  pub within : len ≤ length text
  pub blank : Gap (take len text)
  pub settled : IsSettled (drop len text)

-- the first `len` bytes are a comment
pub record IsComment (text : List ℕ) (len : ℕ) : Type 0 where
  pub here : List ℕ
  pub rest : List ℕ
  pub cut : IsCut text here rest len
  pub comment : is_comment here ≡ true

-- no comment begins the text
abbrev pub HasNoComment : List ℕ → Type 0
HasNoComment text = (here rest : List ℕ) → text ≡ here ++ rest → is_comment here ≡ false

-- `here` passes the test, and no longer front of the text does
pub record IsLongest (test : List ℕ → Bool) (here rest : List ℕ) : Type 0 where
  pub passes : test here ≡ true
  pub longest : (more left : List ℕ) → rest ≡ more ++ left → test (here ++ more) ≡ true → more ≡ []

-- the longest front that passes the test has `len` bytes
pub record IsFront (test : List ℕ → Bool) (text : List ℕ) (len : ℕ) : Type 0 where
  pub within : len ≤ length text
  pub longest : IsLongest test (take len text) (drop len text)

-- nothing, or a dot and an index
abbrev pub is_index : List ℕ → Bool
is_index bs = is_empty bs || marked dot is_number bs

-- the first token has `len` bytes, and its identifiers are short
pub record IsTaken (text : List ℕ) (kind : TokenKind) (len : ℕ) : Type 0 where
  pub here : List ℕ
  pub rest : List ℕ
  pub cut : IsCut text here rest len
  pub first : IsFirst kind here rest
  pub short : long_identifier kind here ≡ None

-- the kind of a spelling
abbrev pub name_kind : List ℕ → TokenKind
name_kind name = if is_keyword name then Word else Ident

-- a name, a number or a quoted text may begin with this byte
abbrev pub begins_other : ℕ → Bool
begins_other b = is_letter b || (is_digit b || ((b == apostrophe) || ((b == question_mark) || ((b == underscore) || (b == quotation_mark)))))

-- how many of these three bytes are the longest symbol, 0 standing for the end of the text
abbrev pub symbol_length : ℕ → ℕ → ℕ → ℕ
symbol_length b c d = if is_triple b c d then 3 else (if is_pair b c then 2 else (if is_single b then 1 else 0))

-- the text begins with the mark of a schematic variable, alone or with that of a type variable, and this many marks
pub data HasMarks : List ℕ → ℕ → Type 0 where
  one : (name : List ℕ) → head_is (λ b. b == apostrophe) name ≡ false → HasMarks (question_mark ∷ name) 1
  two : (name : List ℕ) → HasMarks (question_mark ∷ apostrophe ∷ name) 2

-- the first token is this one, or a fault stands so many bytes on
abbrev pub IsRead : List ℕ → Result Front ℕ → Type 0
IsRead text result = MatchResult result (λ found. IsTaken text found.kind found.len) (IsFault text)
