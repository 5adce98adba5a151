-- What a token is to the grammar of records.
use Rattle.std.specs.Prelude.{ℕ, suc, ◌==◌, Bool, List, [], ◌∷◌, Option, Some, None, slice_range, if◌then◌else◌, codes}
use Rattle.pure_grammar.specs.declared.token.Token.{Token}
use Rattle.pure_grammar.specs.declared.token.TokenKind.{TokenKind}
use Rattle.pure_grammar.specs.declared.token.TokenKind.TheVariants as kind
use Rattle.pure_grammar.specs.Tokens.Bytes.{dot, apostrophe, head_is}
use Rattle.pure_grammar.specs.Tokens.Token.{tail}
use Rattle.pure_grammar.specs.Theories.Lexeme.{same, value_behind}
use Rattle.pure_typ.specs.NameTexts.{name_texts}
use Rattle.pure_record.specs.declared.lexeme.Mark.TheVariants as mark
use Rattle.pure_record.specs.declared.lexeme.Word.{Word}
use Rattle.pure_record.specs.declared.lexeme.Word.TheVariants as word
use Rattle.pure_record.specs.declared.lexeme.Lexeme.{Lexeme}
use Rattle.pure_record.specs.declared.lexeme.Lexeme.TheVariants.{Marked, Identifier, TypeVariable, SchematicType, SchematicTerm, Bound, Numeral, Other}

-- the keyword of these bytes
unfoldable pub keyword_lexeme : List ℕ → Lexeme
keyword_lexeme bs =
    if same bs (codes "begin") then Marked mark.Begin
    else (if same bs (codes "end") then Marked mark.End
    else (if same bs (codes "typedecl") then Marked mark.Typedecl
    else (if same bs (codes "consts") then Marked mark.Consts
    else (if same bs (codes "axiomatization") then Marked mark.Axiomatization
    else Other))))

-- the brackets of these bytes
unfoldable pub bracket_lexeme : List ℕ → Lexeme
bracket_lexeme bs =
    if same bs (codes "(") then Marked mark.OpenParenthesis
    else (if same bs (codes ")") then Marked mark.CloseParenthesis
    else (if same bs (codes "[") then Marked mark.OpenBracket
    else (if same bs (codes "]") then Marked mark.CloseBracket
    else (if same bs (codes "{") then Marked mark.OpenBrace
    else (if same bs (codes "}") then Marked mark.CloseBrace
    else Other)))))

-- the sign of these bytes
unfoldable pub sign_lexeme : List ℕ → Lexeme
sign_lexeme bs =
    if same bs (codes "|") then Marked mark.Bar
    else (if same bs (codes ":") then Marked mark.Colon
    else (if same bs (codes "::") then Marked mark.DoubleColon
    else (if same bs (codes ",") then Marked mark.Comma
    else (if same bs (codes ";") then Marked mark.Semicolon
    else (if same bs (codes "%") then Marked mark.Percent
    else bracket_lexeme bs)))))

-- the name of Pure that these bytes are
unfoldable pub pure_word : List ℕ → Word
pure_word bs =
    if same bs (codes "fun") then word.Fun
    else (if same bs (codes "prop") then word.Prop
    else (if same bs (codes "all") then word.All
    else (if same bs (codes "imp") then word.Imp
    else (if same bs (codes "eq") then word.Eq
    else (if same bs (codes "protect") then word.Protect
    else word.Other)))))

-- the word of an equality that these bytes are
unfoldable pub equality_word : List ℕ → Word
equality_word bs =
    if same bs (codes "beta") then word.Beta
    else (if same bs (codes "refl") then word.Refl
    else (if same bs (codes "subst") then word.Subst
    else (if same bs (codes "ext") then word.Ext
    else (if same bs (codes "iff") then word.Iff
    else pure_word bs))))

-- the word that these bytes are
unfoldable pub word_of : List ℕ → Word
word_of bs =
    if same bs (codes "axiom") then word.Axiom
    else (if same bs (codes "assume") then word.Assume
    else (if same bs (codes "alli") then word.AllIntro
    else (if same bs (codes "alle") then word.AllElim
    else (if same bs (codes "impi") then word.ImpIntro
    else (if same bs (codes "impe") then word.ImpElim
    else equality_word bs)))))

-- what stands before the first dot, and what behind it
abbrev pub before_dot : List ℕ → List ℕ
before_dot [] = []
before_dot (b ∷ bs) = if b == dot then [] else (b ∷ before_dot bs)

abbrev pub behind_dot : List ℕ → List ℕ
behind_dot [] = []
behind_dot (b ∷ bs) = if b == dot then bs else behind_dot bs

-- the place of the text in the list, or the list's length
abbrev pub place_in : List (List ℕ) → List ℕ → ℕ
place_in [] text = 0
place_in (t ∷ ts) text = if same t text then 0 else suc (place_in ts text)

-- the number of the name with this text, where the session has these
abbrev pub number_of : (texts : List (List ℕ)) → List ℕ → ℕ
number_of texts text = place_in (name_texts texts) text

-- what a token `?x.3` or `?'a.3` has behind its first mark, which is that of a type where an apostrophe comes first
abbrev pub is_typ : List ℕ → Bool
is_typ bs = head_is (λ b. b == apostrophe) bs

-- the text of a schematic variable's name, of what stands behind the question mark
abbrev pub schematic_text : List ℕ → List ℕ
schematic_text bs = if is_typ bs then before_dot (tail bs) else before_dot bs

-- a schematic variable, of what stands behind the question mark; without a dot its index is 0
abbrev pub schematic_lexeme : (texts : List (List ℕ)) → List ℕ → Lexeme
schematic_lexeme texts bs =
    if is_typ bs then SchematicType (number_of texts (schematic_text bs)) (value_behind 0 (behind_dot bs))
    else SchematicTerm (number_of texts (schematic_text bs)) (value_behind 0 (behind_dot bs))

abbrev pub lexeme_of : (texts : List (List ℕ)) → TokenKind → List ℕ → Lexeme
lexeme_of texts kind.Word bs = keyword_lexeme bs
lexeme_of texts kind.Ident bs = Identifier (number_of texts bs) (word_of bs)
lexeme_of texts kind.Qualified bs = Other
lexeme_of texts kind.TypeVar bs = TypeVariable (number_of texts (tail bs))
lexeme_of texts kind.Schem bs = schematic_lexeme texts (tail bs)
lexeme_of texts kind.BoundName bs = Bound (value_behind 0 (tail bs))
lexeme_of texts kind.Number bs = Numeral (value_behind 0 bs)
lexeme_of texts kind.Quote bs = Other
lexeme_of texts kind.Symbol bs = sign_lexeme bs
lexeme_of texts kind.End bs = Other

-- what a token of the source is to the grammar
abbrev pub lexeme : (texts : List (List ℕ)) → (source : List ℕ) → Token → Lexeme
lexeme texts source token = lexeme_of texts token.kind (slice_range source token.from token.to)

-- the tokens of the source, and its end
abbrev pub lexemes : (texts : List (List ℕ)) → (source : List ℕ) → List Token → List Lexeme
lexemes texts source [] = Marked mark.SourceEnd ∷ []
lexemes texts source (t ∷ ts) = lexeme texts source t ∷ lexemes texts source ts

-- The text that a token gives to the record's names: an identifier's, and that of a variable without its marks and index.
abbrev pub spelling_of : TokenKind → List ℕ → Option (List ℕ)
spelling_of kind.Ident bs = Some bs
spelling_of kind.TypeVar bs = Some (tail bs)
spelling_of kind.Schem bs = Some (schematic_text (tail bs))
spelling_of _ bs = None

abbrev pub spelling : (source : List ℕ) → Token → Option (List ℕ)
spelling source token = spelling_of token.kind (slice_range source token.from token.to)
