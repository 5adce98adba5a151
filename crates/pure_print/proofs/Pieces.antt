-- Texts that are made of tokens and blanks, and what tokens spell them.
use Rattle.std.proofs.Common.{◌≡◌, ℕ, ◌+◌, ◌-◌, true, List, [], ◌∷◌, ◌++◌, length, take, drop, refl, sym, ap, ◌∙◌, arith, append_assoc, append-nil, length-append}
use Rattle.std.specs.Prelude.{None, slice_range}
use Rattle.std.proofs.Math.Seq.{take-append_seam, drop-append_seam}
use Rattle.pure_grammar.specs.declared.token.TokenKind.{TokenKind}
use Rattle.pure_grammar.specs.declared.token.Token.{Token}
use Rattle.pure_grammar.specs.Tokens.Bytes.{is_blank}
use Rattle.pure_grammar.specs.Tokens.Comment.{Gap, nothing, blank, comment}
use Rattle.pure_grammar.specs.Tokens.Token.{long_identifier}
use Rattle.pure_grammar.specs.Tokens.Spelling.{IsFirst, Begins, Spells}
use Rattle.pure_grammar.specs.Terms.InnerLexeme.{InnerLexeme, Ends, inner_of, inners}

-- a blank, or a token with what it is to the grammar at each place
pub data Piece : Type 0 where
  Space : Piece
  Token_of : (kind : TokenKind) → (bytes : List ℕ) → (lexeme : ℕ → InnerLexeme) → Piece

abbrev pub bytes_of : List Piece → List ℕ
bytes_of [] = []
bytes_of (Space ∷ ps) = 32 ∷ bytes_of ps
bytes_of (Token_of k b l ∷ ps) = b ++ bytes_of ps

-- the tokens of pieces that begin at a place
abbrev pub tokens_of : ℕ → List Piece → List Token
tokens_of from [] = []
tokens_of from (Space ∷ ps) = tokens_of (from + 1) ps
tokens_of from (Token_of k b l ∷ ps) = record { kind = k; from = from; to = from + length b } ∷ tokens_of (from + length b) ps

-- what they are to the grammar, with `r` behind them
abbrev pub lexemes_of : ℕ → List Piece → List InnerLexeme → List InnerLexeme
lexemes_of from [] r = r
lexemes_of from (Space ∷ ps) r = lexemes_of (from + 1) ps r
lexemes_of from (Token_of k b l ∷ ps) r = l from ∷ lexemes_of (from + length b) ps r

-- each token is the first of the text where it stands, its identifiers are short, and it is this to the grammar
abbrev pub Fit : List Piece → Type 0
Fit [] = Unit {0}
Fit (Space ∷ ps) = Fit ps
Fit (Token_of k b l ∷ ps) = IsFirst k b (bytes_of ps) × (long_identifier k b ≡ None) × ((at : ℕ) → inner_of k b at ≡ l at) × Fit ps

space-blank : is_blank 32 ≡ true
unfolding is_blank
space-blank = refl

gap-longer : {g : List ℕ} → Gap g → Gap (g ++ 32 ∷ [])
gap-longer nothing = blank space-blank nothing
gap-longer (blank p q) = blank p (gap-longer q)
gap-longer (comment item bs p q) = rw (append_assoc item bs (32 ∷ [])) (comment item (bs ++ 32 ∷ []) p (gap-longer q))

spelled : (g : List ℕ) → Gap g → (ps : List Piece) (from to : ℕ) → from + length (bytes_of ps) ≡ to → Fit ps → Spells to (tokens_of from ps) (g ++ bytes_of ps)
spelled g gap [] from to e fit = (g, append-nil g, gap)
spelled g gap (Space ∷ ps) from to e fit =
    rw (sym (append_assoc g (32 ∷ []) (bytes_of ps))) (spelled (g ++ 32 ∷ []) (gap-longer gap) ps (from + 1) to (omega arith) fit)
spelled g gap (Token_of k b l ∷ ps) from to e fit =
    let size : length (b ++ bytes_of ps) ≡ length b + length (bytes_of ps) = length-append b (bytes_of ps) in
    let rest = spelled [] nothing ps (from + length b) to (omega arith) fit.3 in
    let begins : Begins to (record { kind = k; from = from; to = from + length b }) (g ++ (b ++ bytes_of ps)) (bytes_of ps) =
    record { gap = g; here = b; blank = gap; text = refl; first = fit.0; short = fit.1; from = omega arith; ends = omega arith } in
    (rest.0, (bytes_of ps, begins, rest.1), rest.2)

-- The tokens of fitting pieces spell their bytes.
pub pieces-spelled : (ps : List Piece) → Fit ps → Spells (length (bytes_of ps)) (tokens_of 0 ps) (bytes_of ps)
pieces-spelled ps fit = spelled [] nothing ps 0 (length (bytes_of ps)) (omega arith) fit

slice-middle : (front here back : List ℕ) (from : ℕ) → from ≡ length front → slice_range (front ++ (here ++ back)) from (from + length here) ≡ here
slice-middle front here back from begin =
    let left : drop (length front) (front ++ (here ++ back)) ≡ here ++ back = drop-append_seam front (here ++ back) in
    let size : (from + length here) - from ≡ length here = omega arith in
    ap (λ n. take n (drop from (front ++ (here ++ back)))) size
    ∙ (ap (λ n. take (length here) (drop n (front ++ (here ++ back)))) begin ∙ (ap (λ s. take (length here) s) left ∙ take-append_seam here back))

lexed : (front : List ℕ) (ps : List Piece) (from : ℕ) → from ≡ length front → Fit ps → inners (front ++ bytes_of ps) (tokens_of from ps) ≡ lexemes_of from ps (Ends ∷ [])
lexed front [] from begin fit = refl
lexed front (Space ∷ ps) from begin fit =
    let size : length (front ++ 32 ∷ []) ≡ length front + 1 = length-append front (32 ∷ []) in
    ap (λ s. inners s (tokens_of (from + 1) ps)) (sym (append_assoc front (32 ∷ []) (bytes_of ps))) ∙ lexed (front ++ 32 ∷ []) ps (from + 1) (omega arith) fit
lexed front (Token_of k b l ∷ ps) from begin fit =
    let size : length (front ++ b) ≡ length front + length b = length-append front b in
    let here : inner_of k (slice_range (front ++ (b ++ bytes_of ps)) from (from + length b)) from ≡ l from =
    ap (λ bs. inner_of k bs from) (slice-middle front b (bytes_of ps) from begin) ∙ fit.2 from in
    let rest : inners (front ++ (b ++ bytes_of ps)) (tokens_of (from + length b) ps) ≡ lexemes_of (from + length b) ps (Ends ∷ []) =
    ap (λ s. inners s (tokens_of (from + length b) ps)) (sym (append_assoc front b (bytes_of ps))) ∙ lexed (front ++ b) ps (from + length b) (omega arith) fit.3 in
    ap (λ x. x ∷ inners (front ++ (b ++ bytes_of ps)) (tokens_of (from + length b) ps)) here ∙ ap (λ xs. l from ∷ xs) rest

-- What the tokens of fitting pieces are to the grammar.
pub pieces-lexed : (ps : List Piece) → Fit ps → inners (bytes_of ps) (tokens_of 0 ps) ≡ lexemes_of 0 ps (Ends ∷ [])
pieces-lexed ps fit = lexed [] ps 0 refl fit
