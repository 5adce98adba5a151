-- What the lexemes of tokens are: none is the end, and an identifier has no dot.
use Rattle.std.proofs.Common.{◌≡◌, ℕ, Bool, true, false, not, List, [], ◌∷◌, refl, sym, true≢false, if◌then◌else◌}
use Rattle.std.specs.Prelude.{codes}
use Rattle.std.proofs.lemmas.Bool.{and_parts}
use Rattle.pure_text.specs.Lists.{Each}
use Rattle.pure_grammar.specs.declared.token.Token.{Token}
use Rattle.pure_grammar.specs.declared.token.TokenKind.{TokenKind}
use Rattle.pure_grammar.specs.declared.token.TokenKind.TheVariants as kind
use Rattle.pure_grammar.specs.declared.lexeme.Keyword.TheVariants as keyword
use Rattle.pure_grammar.specs.declared.lexeme.Sign.TheVariants as sign
use Rattle.pure_grammar.specs.Tokens.Token.{is_spelling, is_token, is_keyword}
use Rattle.pure_grammar.specs.Tokens.Spelling.{IsSlice}
use Rattle.pure_grammar.specs.Theories.TheoryText.{Span}
use Rattle.pure_grammar.specs.Theories.Lexeme.{Lexeme, Reserved, Signed, Plain, Dotted, Variable, Numeral, Quoted, Other, Ends, same, lexeme_of, lexeme, lexemes, word_lexeme, command_lexeme, proof_lexeme, symbol_lexeme}
use Rattle.pure_session.proofs.PlainLemmas.{plain-spelling}
use Rattle.pure_loading_laws.specs.Plain.{HasNoDot}

-- ---- words and signs
-- an identifier, or the end
abbrev is_loose : Lexeme → Bool
is_loose Ends = true
is_loose (Plain text at) = true
is_loose _ = false

-- of these lexemes the first whose test holds, else another
abbrev first_of : List (Bool × Lexeme) → Lexeme → Lexeme
first_of [] other = other
first_of (p ∷ ps) other = if p.0 then p.1 else first_of ps other

abbrev all_fixed : List (Bool × Lexeme) → Bool
all_fixed [] = true
all_fixed (p ∷ ps) = if is_loose p.1 then false else all_fixed ps

chosen : (b c : Bool) (x y : Lexeme) (more : Bool) → is_loose x ≡ c → (if c then false else more) ≡ true → (more ≡ true → is_loose y ≡ false) → is_loose (if b then x else y) ≡ false
chosen b true x y more h a f = absurd (true≢false (sym a))
chosen true false x y more h a f = h
chosen false false x y more h a f = f a

first-fixed : (ps : List (Bool × Lexeme)) (other : Lexeme) → all_fixed ps ≡ true → is_loose other ≡ false → is_loose (first_of ps other) ≡ false
first-fixed [] other a e = e
first-fixed (p ∷ ps) other a e = chosen p.0 (is_loose p.1) p.1 (first_of ps other) (all_fixed ps) refl a (λ more. first-fixed ps other more e)

proof-fixed : (bs : List ℕ) → is_loose (proof_lexeme bs) ≡ false
unfolding proof_lexeme
proof-fixed bs = first-fixed ((same bs (codes "apply"), Reserved keyword.Apply) ∷ (same bs (codes "done"), Reserved keyword.Done) ∷ (same bs (codes "by"), Reserved keyword.By)
    ∷ (same bs (codes "prefer"), Reserved keyword.Prefer) ∷ (same bs (codes "defer"), Reserved keyword.Defer) ∷ (same bs (codes "have"), Reserved keyword.Have) ∷ []) (Other kind.Word) refl refl

command-fixed : (bs : List ℕ) → is_loose (command_lexeme bs) ≡ false
unfolding command_lexeme
command-fixed bs = first-fixed ((same bs (codes "class"), Reserved keyword.Class) ∷ (same bs (codes "typedecl"), Reserved keyword.Typedecl) ∷ (same bs (codes "arities"), Reserved keyword.Arities)
    ∷ (same bs (codes "consts"), Reserved keyword.Consts) ∷ (same bs (codes "axiomatization"), Reserved keyword.Axiomatization) ∷ (same bs (codes "where"), Reserved keyword.Where)
    ∷ (same bs (codes "and"), Reserved keyword.And) ∷ (same bs (codes "definition"), Reserved keyword.Definition) ∷ (same bs (codes "lemma"), Reserved keyword.Lemma)
    ∷ (same bs (codes "theorem"), Reserved keyword.Theorem) ∷ []) (proof_lexeme bs) refl (proof-fixed bs)

word-fixed : (bs : List ℕ) → is_loose (word_lexeme bs) ≡ false
unfolding word_lexeme
word-fixed bs = first-fixed ((same bs (codes "theory"), Reserved keyword.Theory) ∷ (same bs (codes "imports"), Reserved keyword.Imports) ∷ (same bs (codes "begin"), Reserved keyword.Begin)
    ∷ (same bs (codes "end"), Reserved keyword.End) ∷ (same bs (codes "version"), Reserved keyword.Version) ∷ []) (command_lexeme bs) refl (command-fixed bs)

symbol-fixed : (bs : List ℕ) → is_loose (symbol_lexeme bs) ≡ false
unfolding symbol_lexeme
symbol-fixed bs = first-fixed ((same bs (codes "<"), Signed sign.Less) ∷ (same bs (codes ","), Signed sign.Comma) ∷ (same bs (codes ":"), Signed sign.Colon)
    ∷ (same bs (codes "::"), Signed sign.DoubleColon) ∷ (same bs (codes "("), Signed sign.OpenParenthesis) ∷ (same bs (codes ")"), Signed sign.CloseParenthesis)
    ∷ (same bs (codes "{"), Signed sign.OpenBrace) ∷ (same bs (codes "}"), Signed sign.CloseBrace) ∷ []) (Other kind.Symbol) refl refl

-- ---- no token is the end
abbrev pub is_end : Lexeme → Bool
is_end Ends = true
is_end _ = false

fixed-goes : (l : Lexeme) → is_loose l ≡ false → is_end l ≡ false
fixed-goes (Reserved word) h = refl
fixed-goes (Signed s) h = refl
fixed-goes (Plain text at) h = refl
fixed-goes (Dotted text at) h = refl
fixed-goes (Variable text at) h = refl
fixed-goes (Numeral value) h = refl
fixed-goes (Quoted at) h = refl
fixed-goes (Other k) h = refl
fixed-goes Ends h = absurd (true≢false h)

kind-goes : (k : TokenKind) (bs : List ℕ) (at : Span) → is_end (lexeme_of k bs at) ≡ false
kind-goes kind.Word bs at = fixed-goes (word_lexeme bs) (word-fixed bs)
kind-goes kind.Ident bs at = refl
kind-goes kind.Qualified bs at = refl
kind-goes kind.TypeVar bs at = refl
kind-goes kind.Schem bs at = refl
kind-goes kind.BoundName bs at = refl
kind-goes kind.Number bs at = refl
kind-goes kind.Quote bs at = refl
kind-goes kind.Symbol bs at = fixed-goes (symbol_lexeme bs) (symbol-fixed bs)
kind-goes kind.End bs at = refl

pub token-goes : (source : List ℕ) (t : Token) → is_end (lexeme source t) ≡ false
token-goes source t = kind-goes t.kind _ _

-- ---- an identifier has no dot
-- If the lexeme is an identifier, then it has no dot.
abbrev pub IsClean : Lexeme → Type 0
IsClean (Plain text at) = HasNoDot text
IsClean _ = Unit {0}

fixed-clean : (l : Lexeme) → is_loose l ≡ false → IsClean l
fixed-clean (Reserved word) h = tt
fixed-clean (Signed s) h = tt
fixed-clean (Plain text at) h = absurd (true≢false h)
fixed-clean (Dotted text at) h = tt
fixed-clean (Variable text at) h = tt
fixed-clean (Numeral value) h = tt
fixed-clean (Quoted at) h = tt
fixed-clean (Other k) h = tt
fixed-clean Ends h = tt

kind-clean : (k : TokenKind) (bs : List ℕ) (at : Span) → is_token k bs ≡ true → IsClean (lexeme_of k bs at)
kind-clean kind.Word bs at h = fixed-clean (word_lexeme bs) (word-fixed bs)
kind-clean kind.Ident bs at h = plain-spelling bs (and_parts (is_spelling bs) (not (is_keyword bs)) h).0
kind-clean kind.Qualified bs at h = tt
kind-clean kind.TypeVar bs at h = tt
kind-clean kind.Schem bs at h = tt
kind-clean kind.BoundName bs at h = tt
kind-clean kind.Number bs at h = tt
kind-clean kind.Quote bs at h = tt
kind-clean kind.Symbol bs at h = fixed-clean (symbol_lexeme bs) (symbol-fixed bs)
kind-clean kind.End bs at h = tt

pub lexemes-clean : (source : List ℕ) (tokens : List Token) → Each (IsSlice source) tokens → Each IsClean (lexemes source tokens)
lexemes-clean source [] h = (tt, tt)
lexemes-clean source (t ∷ ts) h = (kind-clean t.kind _ _ h.0.spelled, lexemes-clean source ts h.1)
