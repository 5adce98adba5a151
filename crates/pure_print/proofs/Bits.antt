-- Parts of a text, what the grammar sees of each, and what may stand behind it.
use Rattle.std.proofs.Common.{◌≡◌, ℕ, ◌+◌, Bool, false, ◌||◌, ◌==◌, List, [], ◌∷◌, ◌++◌, length, refl, sym, ap, subst, ◌∙◌, arith, append_assoc, length-append}
use Rattle.std.specs.Prelude.{None}
use Rattle.pure_grammar.specs.declared.token.TokenKind.{TokenKind}
use Rattle.pure_grammar.specs.Tokens.Bytes.{is_letter, is_digit, is_name_byte, head_is}
use Rattle.pure_grammar.specs.Tokens.Token.{long_identifier}
use Rattle.pure_grammar.specs.Tokens.Spelling.{IsFirst}
use Rattle.pure_grammar.specs.Terms.InnerLexeme.{InnerLexeme, inner_of}
use Rattle.pure_print.proofs.Pieces.{Piece, Space, Token_of, bytes_of, lexemes_of, Fit}

-- The bytes are those of pieces, which fit where what stands behind them is as needed. What they are to the grammar,
-- from a place on and with a list behind them, is told by a function.
pub record Bit (bytes : List ℕ) (seen : ℕ → List InnerLexeme → List InnerLexeme) (needs : List ℕ → Type 0) : Type 0 where
  pub pieces : List Piece → List Piece
  pub bytes_are : (ps : List Piece) → bytes_of (pieces ps) ≡ bytes ++ bytes_of ps
  pub fits : (ps : List Piece) → Fit ps → needs (bytes_of ps) → Fit (pieces ps)
  pub lexed : (from : ℕ) (ps : List Piece) (r : List InnerLexeme) → lexemes_of from (pieces ps) r ≡ seen from (lexemes_of (from + length bytes) ps r)

-- anything may stand behind it
abbrev pub Any : List ℕ → Type 0
Any rest = Unit {0}

-- no byte goes on here with a name or an index
abbrev pub goes_on : ℕ → Bool
goes_on b = is_name_byte b || (b == 46)

abbrev pub Stops : List ℕ → Type 0
Stops rest = head_is goes_on rest ≡ false

-- the bytes that stand behind names

pub blank-stops : (rest : List ℕ) → Stops (32 ∷ rest)
unfolding is_name_byte is_letter is_digit
blank-stops rest = refl

pub closing-stops : (rest : List ℕ) → Stops (41 ∷ rest)
unfolding is_name_byte is_letter is_digit
closing-stops rest = refl

pub comma-stops : (rest : List ℕ) → Stops (44 ∷ rest)
unfolding is_name_byte is_letter is_digit
comma-stops rest = refl

pub colon-stops : (rest : List ℕ) → Stops (58 ∷ rest)
unfolding is_name_byte is_letter is_digit
colon-stops rest = refl

pub brace-stops : (rest : List ℕ) → Stops (125 ∷ rest)
unfolding is_name_byte is_letter is_digit
brace-stops rest = refl

pub no-bit : {needs : List ℕ → Type 0} → Bit [] (λ from r. r) needs
no-bit = record { pieces = λ ps. ps; bytes_are = λ ps. refl; fits = λ ps f n. f; lexed = λ from ps r. ap (λ n. lexemes_of n ps r) (omega arith) }

pub space-bit : Bit (32 ∷ []) (λ from r. r) Any
space-bit = record { pieces = λ ps. Space ∷ ps; bytes_are = λ ps. refl; fits = λ ps f n. f; lexed = λ from ps r. refl }

pub token-bit : {needs : List ℕ → Type 0} (kind : TokenKind) (bytes : List ℕ) (lexeme : ℕ → InnerLexeme) → ((rest : List ℕ) → needs rest → IsFirst kind bytes rest) → long_identifier kind bytes ≡ None
    → ((at : ℕ) → inner_of kind bytes at ≡ lexeme at) → Bit bytes (λ from r. lexeme from ∷ r) needs
token-bit kind bytes lexeme first short is = record {
  pieces = λ ps. Token_of kind bytes lexeme ∷ ps;
  bytes_are = λ ps. refl;
  fits = λ ps f n. (first (bytes_of ps) n, short, is, f);
  lexed = λ from ps r. refl;
}

-- one part behind another
pub followed : {a b : List ℕ} {seen_a seen_b : ℕ → List InnerLexeme → List InnerLexeme} {needs_a needs_b needs : List ℕ → Type 0} → Bit a seen_a needs_a → Bit b seen_b needs_b
    → ((rest : List ℕ) → needs rest → needs_a (b ++ rest)) → ((rest : List ℕ) → needs rest → needs_b rest) → Bit (a ++ b) (λ from r. seen_a from (seen_b (from + length a) r)) needs
followed {a} {b} {seen_a} {seen_b} {needs_a} {needs_b} {needs} p q first second = record {
  pieces = λ ps. p.pieces (q.pieces ps);
  bytes_are = λ ps. p.bytes_are (q.pieces ps) ∙ (ap (λ x. a ++ x) (q.bytes_are ps) ∙ sym (append_assoc a b (bytes_of ps)));
  fits = λ ps f n. p.fits (q.pieces ps) (q.fits ps f (second (bytes_of ps) n)) (subst needs_a (sym (q.bytes_are ps)) (first (bytes_of ps) n));
  lexed = λ from ps r.
      (let size : (from + length a) + length b ≡ from + length (a ++ b) = omega (arith, length-append a b) in
      p.lexed from (q.pieces ps) r ∙ ap (λ x. seen_a from x) (q.lexed (from + length a) ps r ∙ ap (λ n. seen_b (from + length a) (lexemes_of n ps r)) size));
}

-- a part that needs less than is there
pub narrowed : {a : List ℕ} {seen : ℕ → List InnerLexeme → List InnerLexeme} {needs_a needs : List ℕ → Type 0} → Bit a seen needs_a → ((rest : List ℕ) → needs rest → needs_a rest) → Bit a seen needs
narrowed p n = record { pieces = p.pieces; bytes_are = p.bytes_are; fits = λ ps f h. p.fits ps f (n (bytes_of ps) h); lexed = p.lexed }

-- the same text and the same tokens, otherwise written
pub rewritten : {a b : List ℕ} {seen other : ℕ → List InnerLexeme → List InnerLexeme} {needs : List ℕ → Type 0} → Bit a seen needs → a ≡ b
    → ((from : ℕ) (r : List InnerLexeme) → seen from r ≡ other from r) → Bit b other needs
rewritten {a} {b} {seen} {other} {needs} p e same = record {
  pieces = p.pieces;
  bytes_are = λ ps. p.bytes_are ps ∙ ap (λ x. x ++ bytes_of ps) e;
  fits = p.fits;
  lexed = λ from ps r.
      (let size : from + length a ≡ from + length b = ap (λ x. from + length x) e in
      p.lexed from ps r ∙ (same from (lexemes_of (from + length a) ps r) ∙ ap (λ n. other from (lexemes_of n ps r)) size));
}
