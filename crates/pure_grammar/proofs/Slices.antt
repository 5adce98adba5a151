-- Tokens are slices of their source.
use Rattle.std.proofs.Common.{◌==◌, false, ◌≡◌, ℕ, ◌+◌, ◌-◌, ◌<◌, ◌≤◌, List, [], ◌∷◌, ◌++◌, length, take, drop, sym, ap, ◌∙◌, true, arith, append_assoc, length-append}
use Rattle.std.specs.Prelude.{slice_range}
use Rattle.std.proofs.Math.Seq.{take-append_seam, drop-append_seam}
use Rattle.std.proofs.lemmas.List.{take-append-drop, length-take, length-take-le, length-drop}
use Rattle.pure_grammar.specs.Tokens.Token.{is_token}
use Rattle.pure_grammar.specs.Tokens.Spelling.{Begins, Leaves, IsSlice, AreSlices, QuoteHasMarks, TokensAreSlices}
use Rattle.pure_grammar.specs.declared.token.Token.{Token}
use Rattle.pure_grammar.specs.declared.token.TokenKind.{TokenKind}
use Rattle.pure_grammar.specs.declared.token.TokenKind.TheVariants.{Quote}
use Rattle.pure_grammar.proofs.Classes.{token-nothing}
use Rattle.std.proofs.lemmas.Bool.{and_parts, false≢true}

-- the source is cut into what was read, the text and what stands behind it
pub record IsPart (source front text back : List ℕ) (to : ℕ) : Type 0 where
  pub whole : source ≡ front ++ (text ++ back)
  pub ends : length front + length text ≡ to

slice-middle : (source front here back : List ℕ) (from to : ℕ) → source ≡ front ++ (here ++ back) → from ≡ length front → to ≡ from + length here → slice_range source from to ≡ here
slice-middle source front here back from to e begin end =
    let left : drop (length front) source ≡ here ++ back = ap (λ s. drop (length front) s) e ∙ drop-append_seam front (here ++ back) in
    let size : to - from ≡ length here = omega arith in
    ap (λ n. take n (drop from source)) size ∙ (ap (λ n. take (length here) (drop n source)) begin ∙ (ap (λ s. take (length here) s) left ∙ take-append_seam here back))

token-some : (kind : TokenKind) (here : List ℕ) → is_token kind here ≡ true → 0 < length here
token-some kind [] p = absurd (token-nothing kind p)
token-some kind (b ∷ here) p = omega arith

-- what is left behind the first token is a part of the source too
pub record FirstSlice (source front text rest back : List ℕ) (t : Token) (to : ℕ) : Type 0 where
  pub above : length front ≤ t.from
  pub slice : IsSlice source t
  pub read : List ℕ
  pub size : length read ≡ t.to
  pub part : IsPart source read rest back to

first-slice : (source front text rest back : List ℕ) (t : Token) (to : ℕ) → IsPart source front text back to → Begins to t text rest → FirstSlice source front text rest back t to
first-slice source front text rest back t to p b =
    let whole : source ≡ (front ++ b.gap) ++ (b.here ++ (rest ++ back)) =
    p.whole ∙ (ap (λ x. front ++ (x ++ back)) b.text ∙ simp append_assoc) in
    let size : length text ≡ length b.gap + (length b.here + length rest) = ap length b.text ∙ simp length-append in
    let from = b.from in
    let ends = b.ends in
    let total = p.ends in
    let begin : t.from ≡ length (front ++ b.gap) = simp length-append (omega arith) in
    let end : t.to ≡ t.from + length b.here = omega arith in
    let some : 0 < length b.here = token-some t.kind b.here b.first.token in
    let bytes : slice_range source t.from t.to ≡ b.here = slice-middle source (front ++ b.gap) b.here (rest ++ back) t.from t.to whole begin end in
    let source_size : length source ≡ length front + (length text + length back) = ap length p.whole ∙ simp length-append in
    record {
      above = omega (arith, length-append front b.gap);
      slice = record { some = omega arith; within = omega arith; spelled = rw bytes b.first.token };
      read = (front ++ b.gap) ++ b.here;
      size = simp length-append (omega arith);
      part = record { whole = whole ∙ sym (append_assoc (front ++ b.gap) b.here (rest ++ back)); ends = simp length-append (omega arith) };
    }

slices : (source front text gap back : List ℕ) (to : ℕ) (ts : List Token) → IsPart source front text back to → Leaves to ts text gap → AreSlices source (length front) to ts
slices source front text gap back to [] p e = let total = p.ends in omega arith
slices source front text gap back to (t ∷ ts) p (behind, begins, leaves) =
    let x = first-slice source front text behind back t to p begins in
    (x.above, x.slice, rw (← x.size) (slices source x.read behind gap back to ts x.part leaves))

pub tokens_are_slices : TokensAreSlices
tokens_are_slices from to source ts order within (gap, leaves, _) =
    let size : length (take from source) ≡ from = length-take-le from source (omega arith) in
    let left : to - from ≤ length (drop from source) = simp length-drop (omega arith) in
    let middle : length (take (to - from) (drop from source)) ≡ to - from = length-take-le (to - from) (drop from source) left in
    let part : IsPart source (take from source) (slice_range source from to) (drop (to - from) (drop from source)) to = record {
      whole = sym (ap (λ x. take from source ++ x) (take-append-drop (to - from) (drop from source)) ∙ take-append-drop from source);
      ends = omega arith;
    } in
    let found : AreSlices source (length (take from source)) to ts = slices source (take from source) (slice_range source from to) gap (drop (to - from) (drop from source)) to ts part leaves in
    rw size at found

-- a quoted text has two bytes at least
quote-size : (bs : List ℕ) → is_token Quote bs ≡ true → 2 ≤ length bs
quote-size [] p = cc
quote-size (b ∷ []) p = let inner = (and_parts (b == 34) false p).1 in absurd (false≢true inner)
quote-size (b ∷ c ∷ bs) p = omega arith

quote-range : (source : List ℕ) (kind : TokenKind) (from to : ℕ) → kind ≡ Quote → is_token kind (slice_range source from to) ≡ true → from < to → from + 2 ≤ to
quote-range source kind from to same p some =
    let quote : is_token Quote (slice_range source from to) ≡ true = rw same at p in
    let size = quote-size (slice_range source from to) quote in
    let whole : length (slice_range source from to) ≤ to - from = simp length-take (omega arith) in
    omega arith

pub quote_has_marks : QuoteHasMarks
quote_has_marks source t s same = quote-range source t.kind t.from t.to same s.spelled s.some
