-- Texts of tokens with a blank behind each.
use Rattle.std.proofs.Common.{◌≡◌, ℕ, ◌+◌, ◌-◌, List, [], ◌∷◌, ◌++◌, map, length, take, drop, refl, sym, ap, ap₂, ◌∙◌, arith, append_assoc, append-nil, length-append}
use Rattle.std.specs.Prelude.{None, slice_range}
use Rattle.std.proofs.Math.Seq.{take-append_seam, drop-append_seam}
use Rattle.pure_grammar.specs.declared.token.TokenKind.{TokenKind}
use Rattle.pure_grammar.specs.declared.token.Token.{Token}
use Rattle.pure_grammar.specs.Tokens.Comment.{Gap, nothing, blank}
use Rattle.pure_grammar.specs.Tokens.Token.{long_identifier}
use Rattle.pure_grammar.specs.Tokens.Spelling.{IsFirst, Begins, Spells}
use Rattle.pure_record_print.proofs.GapBytes.{IsGapByte}

-- a token's kind and bytes, and the blank behind it
pub record Piece : Type 0 where
  pub kind : TokenKind
  pub bytes : List ℕ
  pub gap : ℕ

abbrev pub bytes_of : List Piece → List ℕ
bytes_of [] = []
bytes_of (p ∷ ps) = p.bytes ++ (p.gap ∷ bytes_of ps)

-- the tokens of pieces that begin at a place
abbrev pub tokens_of : ℕ → List Piece → List Token
tokens_of from [] = []
tokens_of from (p ∷ ps) = record { kind = p.kind; from = from; to = from + length p.bytes } ∷ tokens_of (from + length p.bytes + 1) ps

-- each token is the first of the text where it stands, and its identifiers are short
abbrev pub Fit : List Piece → Type 0
Fit [] = Unit {0}
Fit (p ∷ ps) = IsGapByte p.gap × IsFirst p.kind p.bytes (p.gap ∷ bytes_of ps) × (long_identifier p.kind p.bytes ≡ None) × Fit ps

spelled : (g : List ℕ) → Gap g → (ps : List Piece) (from to : ℕ) → from + length (bytes_of ps) ≡ to → Fit ps → Spells to (tokens_of from ps) (g ++ bytes_of ps)
spelled g gap [] from to e fit = (g, append-nil g, gap)
spelled g gap (p ∷ ps) from to e fit =
    let size : length (p.bytes ++ (p.gap ∷ bytes_of ps)) ≡ length p.bytes + length (p.gap ∷ bytes_of ps) = length-append p.bytes (p.gap ∷ bytes_of ps) in
    let space : IsGapByte p.gap = fit.0 in
    let rest = spelled (p.gap ∷ []) (blank space.blank nothing) ps (from + length p.bytes + 1) to (omega arith) fit.3 in
    let begins : Begins to (record { kind = p.kind; from = from; to = from + length p.bytes }) (g ++ (p.bytes ++ (p.gap ∷ bytes_of ps))) (p.gap ∷ bytes_of ps) =
    record { gap = g; here = p.bytes; blank = gap; text = refl; first = fit.1; short = fit.2; from = omega arith; ends = omega arith } in
    (rest.0, (p.gap ∷ bytes_of ps, begins, rest.1), rest.2)

-- The tokens of fitting pieces spell their bytes.
pub pieces-spelled : (ps : List Piece) → Fit ps → Spells (length (bytes_of ps)) (tokens_of 0 ps) (bytes_of ps)
pieces-spelled ps fit = spelled [] nothing ps 0 (length (bytes_of ps)) (omega arith) fit

pub slice-middle : (front here back : List ℕ) (from : ℕ) → from ≡ length front → slice_range (front ++ (here ++ back)) from (from + length here) ≡ here
slice-middle front here back from begin =
    let left : drop (length front) (front ++ (here ++ back)) ≡ here ++ back = drop-append_seam front (here ++ back) in
    let size : (from + length here) - from ≡ length here = omega arith in
    ap (λ n. take n (drop from (front ++ (here ++ back)))) size
    ∙ (ap (λ n. take (length here) (drop n (front ++ (here ++ back)))) begin ∙ (ap (λ s. take (length here) s) left ∙ take-append_seam here back))

-- what a function of kind and bytes tells of a token of the source
abbrev pub told : {A : Type 0} → (TokenKind → List ℕ → A) → List ℕ → Token → A
told f source t = f t.kind (slice_range source t.from t.to)

seen : {A : Type 0} (f : TokenKind → List ℕ → A) (front : List ℕ) (ps : List Piece) (from : ℕ) → from ≡ length front
    → map (told f (front ++ bytes_of ps)) (tokens_of from ps) ≡ map (λ p. f p.kind p.bytes) ps
seen f front [] from begin = refl
seen f front (p ∷ ps) from begin =
    let source = front ++ (p.bytes ++ (p.gap ∷ bytes_of ps)) in
    let front' = front ++ (p.bytes ++ p.gap ∷ []) in
    let same : source ≡ front' ++ bytes_of ps = sym (append_assoc front (p.bytes ++ p.gap ∷ []) (bytes_of ps) ∙ ap (λ z. front ++ z) (append_assoc p.bytes (p.gap ∷ []) (bytes_of ps))) in
    let size : length front' ≡ length front + (length p.bytes + 1) = length-append front (p.bytes ++ p.gap ∷ []) ∙ ap (λ n. length front + n) (length-append p.bytes (p.gap ∷ [])) in
    let here : f p.kind (slice_range source from (from + length p.bytes)) ≡ f p.kind p.bytes = ap (f p.kind) (slice-middle front p.bytes (p.gap ∷ bytes_of ps) from begin) in
    let rest : map (told f source) (tokens_of (from + length p.bytes + 1) ps) ≡ map (λ q. f q.kind q.bytes) ps =
    ap (λ z. map (told f z) (tokens_of (from + length p.bytes + 1) ps)) same ∙ seen f front' ps (from + length p.bytes + 1) (omega arith) in
    ap₂ (λ x xs. x ∷ xs) here rest

-- What a function tells of the tokens of pieces.
pub pieces-told : {A : Type 0} (f : TokenKind → List ℕ → A) (ps : List Piece) → map (told f (bytes_of ps)) (tokens_of 0 ps) ≡ map (λ p. f p.kind p.bytes) ps
pieces-told f ps = seen f [] ps 0 refl
