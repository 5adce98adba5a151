-- Which tokens spell a source, and where its first fault stands.
use Rattle.std.specs.Prelude.{◌≡◌, ℕ, ◌+◌, ◌<◌, ◌≤◌, slice_range, ◌⊎◌, false, List, [], ◌∷◌, ◌++◌, length, IsTrue, Some, None}
use Rattle.pure_grammar.specs.Tokens.Comment.{Gap, IsSettled, opens_comment}
use Rattle.pure_grammar.specs.Tokens.Token.{is_token, long_identifier}
use Rattle.pure_grammar.specs.declared.token.Token.{Token}
use Rattle.pure_grammar.specs.declared.token.TokenKind.{TokenKind}
use Rattle.pure_grammar.specs.declared.token.TokenKind.TheVariants.{Quote}

-- Of the text `here` and then `rest`, the first token is `here`: no longer front of the text is a token of any kind,
-- and no comment begins there.
pub record IsFirst (kind : TokenKind) (here rest : List ℕ) : Type 0 where
  pub token : IsTrue (is_token kind here)
  pub longest : (other : TokenKind) (more left : List ℕ) → rest ≡ more ++ left → IsTrue (is_token other (here ++ more)) → more ≡ []
  pub no_comment : opens_comment (here ++ rest) ≡ false

-- The token is the first of the text `bytes`, `rest` stands behind it, and the text ends at the place `to`. Blanks and
-- comments may stand before it, and none of its identifiers has more than 64 bytes.
pub record Begins (to : ℕ) (token : Token) (bytes rest : List ℕ) : Type 0 where
  pub gap : List ℕ
  pub here : List ℕ
  pub blank : Gap gap
  pub text : bytes ≡ gap ++ (here ++ rest)
  pub first : IsFirst token.kind here rest
  pub short : long_identifier token.kind here ≡ None
  pub from : token.from + (length here + length rest) ≡ to
  pub ends : token.to + length rest ≡ to

-- the tokens are the first of the text, and `rest` is what stands behind them
abbrev pub Leaves : ℕ → List Token → List ℕ → List ℕ → Type 0
Leaves to [] bytes rest = bytes ≡ rest
Leaves to (t ∷ ts) bytes rest = (behind : List ℕ) × Begins to t bytes behind × Leaves to ts behind rest

-- The tokens spell the text that ends at the place `to`.
abbrev pub Spells : ℕ → List Token → List ℕ → Type 0
Spells to ts bytes = (gap : List ℕ) × Leaves to ts bytes gap × Gap gap

-- No token is the first of the text, which isn't empty. So it is too where a quoted text or a comment begins that
-- isn't closed.
pub record HasNoFirst (bytes : List ℕ) : Type 0 where
  pub some : 0 < length bytes
  pub none : (kind : TokenKind) (here rest : List ℕ) → bytes ≡ here ++ rest → IsFirst kind here rest → ⊥

-- the first token has an identifier of more than 64 bytes, which begins `skipped` bytes on
pub record HasLong (bytes : List ℕ) (skipped : ℕ) : Type 0 where
  pub kind : TokenKind
  pub here : List ℕ
  pub rest : List ℕ
  pub text : bytes ≡ here ++ rest
  pub first : IsFirst kind here rest
  pub long : long_identifier kind here ≡ Some skipped

-- at the front of the text stands a fault, `skipped` bytes on
abbrev pub IsFault : List ℕ → ℕ → Type 0
IsFault bytes skipped = (HasNoFirst bytes × (skipped ≡ 0)) ⊎ HasLong bytes skipped

-- The first fault of the text that ends at the place `to` stands at `place`: the text before it is spelled, and then,
-- behind blanks and comments, no token begins, or the one that begins has an identifier that is too long.
pub record HasFault (to : ℕ) (bytes : List ℕ) (place : ℕ) : Type 0 where
  pub tokens : List Token
  pub gap : List ℕ
  pub rest : List ℕ
  pub skipped : ℕ
  pub before : Leaves to tokens bytes (gap ++ rest)
  pub blank : Gap gap
  pub settled : IsSettled rest
  pub fault : IsFault rest skipped
  pub at_place : place + length rest ≡ to + skipped

-- The token is a slice of the source that is a token of its kind.
pub record IsSlice (source : List ℕ) (token : Token) : Type 0 where
  pub some : token.from < token.to
  pub within : token.to ≤ length source
  pub spelled : IsTrue (is_token token.kind (slice_range source token.from token.to))

-- The tokens are slices of the source, one behind another, from the place `from` on and at most to the place `to`.
abbrev pub AreSlices : List ℕ → ℕ → ℕ → List Token → Type 0
AreSlices source from to [] = from ≤ to
AreSlices source from to (t ∷ ts) = (from ≤ t.from) × IsSlice source t × AreSlices source t.to to ts

-- Each text that ends at a place has a list of tokens, or a first fault.
abbrev pub SomeReading : Type 0
SomeReading =
    (to : ℕ) (bytes : List ℕ) → length bytes ≤ to
    → ((ts : List Token) × Spells to ts bytes) ⊎ ((place : ℕ) × HasFault to bytes place)

abbrev pub TokensAreSlices : Type 0
TokensAreSlices =
    (from to : ℕ) (source : List ℕ) (ts : List Token) → from ≤ to → to ≤ length source
    → Spells to ts (slice_range source from to) → AreSlices source from to ts

abbrev pub QuoteHasMarks : Type 0
QuoteHasMarks = (source : List ℕ) (token : Token) → IsSlice source token → token.kind ≡ Quote → token.from + 2 ≤ token.to

abbrev pub OneList : Type 0
OneList = (to : ℕ) (bytes : List ℕ) (ts us : List Token) → Spells to ts bytes → Spells to us bytes → ts ≡ us

abbrev pub ListOrFault : Type 0
ListOrFault = (to place : ℕ) (bytes : List ℕ) (ts : List Token) → Spells to ts bytes → HasFault to bytes place → ⊥

abbrev pub OneFault : Type 0
OneFault = (to first second : ℕ) (bytes : List ℕ) → HasFault to bytes first → HasFault to bytes second → first ≡ second
