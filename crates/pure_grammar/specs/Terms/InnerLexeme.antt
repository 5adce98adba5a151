-- What a token is to the grammar of terms and types.
use Rattle.std.specs.Prelude.{ℕ, ◌==◌, List, [], ◌∷◌, slice_range, if◌then◌else◌, codes}
use Rattle.pure_grammar.specs.declared.token.Token.{Token}
use Rattle.pure_grammar.specs.declared.token.TokenKind.{TokenKind}
use Rattle.pure_grammar.specs.declared.token.TokenKind.TheVariants as kind
use Rattle.pure_grammar.specs.declared.inner.Opening.{Opening}
use Rattle.pure_grammar.specs.declared.inner.Opening.TheVariants as opening
use Rattle.pure_grammar.specs.declared.inner.Mark.{Mark}
use Rattle.pure_grammar.specs.declared.inner.Mark.TheVariants as mark
use Rattle.pure_grammar.specs.Tokens.Bytes.{apostrophe, head_is}
use Rattle.pure_grammar.specs.Tokens.Token.{tail}
use Rattle.pure_grammar.specs.Theories.Lexeme.{same}

-- A token by what the grammar tells apart and the tree keeps: an identifier, which a keyword is too, a qualified name, a
-- type variable, a schematic variable of terms or of types and a bound name with their texts as written, and a sign.
-- Each has its place where a node of a tree can begin with it. `Other` are the tokens that stand nowhere in the grammar,
-- and `Ends` is the end of the tokens.
pub data InnerLexeme : Type 0 where
  Plain : (text : List ℕ) → (at : ℕ) → InnerLexeme
  Dotted : (text : List ℕ) → (at : ℕ) → InnerLexeme
  Variable : (text : List ℕ) → (at : ℕ) → InnerLexeme
  Schematic : (text : List ℕ) → (at : ℕ) → InnerLexeme
  TypeSchematic : (text : List ℕ) → (at : ℕ) → InnerLexeme
  Bound : (text : List ℕ) → (at : ℕ) → InnerLexeme
  Opens : (opening : Opening) → (at : ℕ) → InnerLexeme
  Signed : (mark : Mark) → InnerLexeme
  Other : InnerLexeme
  Ends : InnerLexeme

-- the sign of these bytes, where it begins nothing
unfoldable pub mark_lexeme : List ℕ → InnerLexeme
mark_lexeme bs =
    if same bs (codes "==>") then Signed mark.Implies
    else (if same bs (codes "==") then Signed mark.Equals
    else (if same bs (codes "=>") then Signed mark.Arrow
    else (if same bs (codes "::") then Signed mark.DoubleColon
    else (if same bs (codes "|]") then Signed mark.ClosePremises
    else (if same bs (codes ".") then Signed mark.Dot
    else (if same bs (codes ",") then Signed mark.Comma
    else (if same bs (codes ";") then Signed mark.Semicolon
    else (if same bs (codes ")") then Signed mark.CloseParenthesis
    else (if same bs (codes "]") then Signed mark.CloseBracket
    else (if same bs (codes "{") then Signed mark.OpenBrace
    else (if same bs (codes "}") then Signed mark.CloseBrace
    else Other)))))))))))

-- the sign of these bytes
unfoldable pub sign_lexeme : List ℕ → ℕ → InnerLexeme
sign_lexeme bs at =
    if same bs (codes "!!") then Opens opening.All at
    else (if same bs (codes "%") then Opens opening.Lambda at
    else (if same bs (codes "[|") then Opens opening.Premises at
    else (if same bs (codes "(") then Opens opening.Parenthesis at
    else (if same bs (codes "[") then Opens opening.Bracket at
    else mark_lexeme bs))))

-- a schematic variable is one of types where an apostrophe stands behind its question mark
abbrev pub schematic_lexeme : List ℕ → ℕ → InnerLexeme
schematic_lexeme bs at = if head_is (λ b. b == apostrophe) (tail bs) then TypeSchematic bs at else Schematic bs at

abbrev pub inner_of : TokenKind → List ℕ → ℕ → InnerLexeme
inner_of kind.Word bs at = Plain bs at
inner_of kind.Ident bs at = Plain bs at
inner_of kind.Qualified bs at = Dotted bs at
inner_of kind.TypeVar bs at = Variable bs at
inner_of kind.Schem bs at = schematic_lexeme bs at
inner_of kind.BoundName bs at = Bound bs at
inner_of kind.Number bs at = Other
inner_of kind.Quote bs at = Other
inner_of kind.Symbol bs at = sign_lexeme bs at
inner_of kind.End bs at = Other

-- what a token of the source is to the grammar
abbrev pub inner : List ℕ → Token → InnerLexeme
inner source token = inner_of token.kind (slice_range source token.from token.to) token.from

-- the tokens of the source, and their end
abbrev pub inners : List ℕ → List Token → List InnerLexeme
inners source [] = Ends ∷ []
inners source (t ∷ ts) = inner source t ∷ inners source ts
