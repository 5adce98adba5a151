-- What has been read of a text.
use Rattle.std.proofs.Common.{◌≡◌, ℕ, true, ◌+◌, ◌-◌, ◌<◌, ◌≤◌, List, [], ◌∷◌, ◌++◌, length, take, drop, refl, sym, ap, ◌∙◌, inl, inr, arith, length-append, Some, None, Option}
use Rattle.std.specs.Prelude.{slice_range}
use Rattle.std.proofs.lemmas.Bool.{cond_both}
use Rattle.std.proofs.lemmas.List.{take-append-drop, length-take-le, length-drop, drop-drop, take_all}
use Rattle.std.proofs.lemmas.List.Prefix.{front_rest}
use Rattle.pure_grammar.specs.Tokens.Comment.{Gap}
use Rattle.pure_grammar.specs.Tokens.Token.{is_token, is_long, long_identifier, first_identifier, second_identifier}
use Rattle.pure_grammar.specs.Tokens.Spelling.{Begins, Leaves, Spells, HasFault, IsFault}
use Rattle.pure_grammar.specs.declared.token.Token.{Token}
use Rattle.pure_grammar.specs.declared.token.TokenKind.{TokenKind}
use Rattle.pure_grammar.proofs.Classes.{token-nothing}
use Rattle.pure_lex.specs.Fronts.{IsGap, IsTaken}

-- the tokens so far are the first of the text, and what stands from the place `at` on is left
pub record Progress (to : ℕ) (text : List ℕ) (found : List Token) (at : ℕ) : Type 0 where
  pub within : at ≤ length text
  pub leaves : Leaves to found text (drop at text)

pub progress-start : (to : ℕ) (text : List ℕ) → Progress to text [] 0
progress-start to text = record { within = omega arith; leaves = refl }

Leaves-push : (to : ℕ) (t : Token) (ts : List Token) (text left rest : List ℕ) → Leaves to ts text left → Begins to t left rest → Leaves to (ts ++ (t ∷ [])) text rest
Leaves-push to t [] text left rest e b = let begins : Begins to t text rest = rw e b in (rest, begins, refl)
Leaves-push to t (u ∷ ts) text left rest (behind, begins, leaves) b = (behind, begins, Leaves-push to t ts behind left rest leaves b)

-- a token has a byte
pub taken-some : (text : List ℕ) (kind : TokenKind) (len : ℕ) → IsTaken text kind len → 0 < len
taken-some text kind len x = some x.here x.first.token (x.cut.size)
  where
    some : (here : List ℕ) → is_token kind here ≡ true → length here ≡ len → 0 < len
    some [] p size = absurd (token-nothing kind p)
    some (b ∷ here) p size = omega arith

-- what the gap at the place `at` is
pub record Passed (text : List ℕ) (at gap : ℕ) : Type 0 where
  pub within : at + gap ≤ length text
  pub blank : Gap (take gap (drop at text))
  pub left : drop at text ≡ take gap (drop at text) ++ drop (at + gap) text

pub passed : (text : List ℕ) (at gap : ℕ) → at ≤ length text → IsGap (drop at text) gap → Passed text at gap
passed text at gap within g =
    let inner : gap ≤ length text - at = simp length-drop at g.within in
    record {
      within = omega arith;
      blank = g.blank;
      left = sym (take-append-drop gap (drop at text)) ∙ ap (λ bs. take gap (drop at text) ++ bs) (drop-drop gap at text);
    }

-- the text ends at the place `to` and begins `length text` bytes before it
next-begins : (to from : ℕ) (text : List ℕ) (at gap len : ℕ) (t : Token) → from + length text ≡ to → Passed text at gap → IsTaken (drop (at + gap) text) t.kind len → t.from ≡ from + (at + gap) → t.to ≡ from + (at + gap + len) → Begins to t (drop at text) (drop (at + gap + len) text)
next-begins to from text at gap len t whole p x begin end =
    let parts = x.cut.parts in
    let size = x.cut.size in
    let behind : drop (at + gap + len) text ≡ x.rest =
    sym (drop-drop len (at + gap) text) ∙ (ap (λ n. drop n (drop (at + gap) text)) (sym size) ∙ front_rest (drop (at + gap) text) x.here x.rest parts) in
    let total : length (drop (at + gap) text) ≡ length x.here + length x.rest = ap length parts ∙ length-append x.here x.rest in
    let left : length text - (at + gap) ≡ length x.here + length x.rest = simp length-drop at total in
    let within = p.within in
    let begins : Begins to t (drop at text) x.rest = record {
      gap = take gap (drop at text);
      here = x.here;
      blank = p.blank;
      text = p.left ∙ ap (λ bs. take gap (drop at text) ++ bs) parts;
      first = x.first;
      short = x.short;
      from = omega arith;
      ends = omega arith;
    } in
    rw behind begins

pub progress-push : (to from : ℕ) (text : List ℕ) (found : List Token) (at gap len : ℕ) (t : Token) → from + length text ≡ to → Progress to text found at → IsGap (drop at text) gap → IsTaken (drop (at + gap) text) t.kind len → t.from ≡ from + (at + gap) → t.to ≡ from + (at + gap + len) → Progress to text (found ++ (t ∷ [])) (at + gap + len)
progress-push to from text found at gap len t whole r g x begin end =
    let p = passed text at gap r.within g in
    let bound : len ≤ length text - (at + gap) = simp length-drop at x.cut.within in
    let within = p.within in
    record {
      within = omega arith;
      leaves = Leaves-push to t found text (drop at text) (drop (at + gap + len) text) r.leaves (next-begins to from text at gap len t whole p x begin end);
    }

-- nothing is left behind the gap
pub progress-end : (to : ℕ) (text : List ℕ) (found : List Token) (at gap : ℕ) → Progress to text found at → IsGap (drop at text) gap → length (drop (at + gap) text) ≡ 0 → Spells to found text
progress-end to text found at gap r g none =
    let left : length text - (at + gap) ≡ 0 = simp length-drop at none in
    let within = r.within in
    let past : length (drop at text) ≤ gap = simp length-drop (omega arith) in
    let blank : Gap (drop at text) = rw (take_all gap (drop at text) past) at g.blank in
    (drop at text, r.leaves, blank)

-- a fault stands within the text
long-within : (kind : TokenKind) (bs : List ℕ) (skipped : ℕ) → long_identifier kind bs ≡ Some skipped → skipped ≤ length bs
long-within kind bs skipped =
    let P : Option ℕ → Type 0 = λ o. o ≡ Some skipped → skipped ≤ length bs in
    cond_both (is_long (first_identifier kind bs)) _ _ P (λ _ e. first e)
    (λ _. cond_both (is_long (second_identifier kind bs)) _ _ P (λ _ e. second e) (λ _ e. none e))
  where
    first : Some 0 ≡ Some skipped → skipped ≤ length bs
    first e = let same : 0 ≡ skipped = cc in omega arith

    second : Some (length bs - length (second_identifier kind bs)) ≡ Some skipped → skipped ≤ length bs
    second e = let same : length bs - length (second_identifier kind bs) ≡ skipped = cc in omega arith

    none : None ≡ Some skipped → skipped ≤ length bs
    none e = cc

pub fault-within : (bytes : List ℕ) (skipped : ℕ) → IsFault bytes skipped → skipped ≤ length bytes
fault-within bytes skipped (inl (no_first, e)) = omega (arith, e)
fault-within bytes skipped (inr x) =
    let inner = long-within x.kind x.here skipped x.long in
    let total : length bytes ≡ length x.here + length x.rest = ap length x.text ∙ length-append x.here x.rest in
    omega arith

pub progress-fault : (to from : ℕ) (text : List ℕ) (found : List Token) (at gap skipped : ℕ) → from + length text ≡ to → Progress to text found at → IsGap (drop at text) gap → IsFault (drop (at + gap) text) skipped → HasFault to text (from + (at + gap + skipped))
progress-fault to from text found at gap skipped whole r g fault =
    let p = passed text at gap r.within g in
    let size : length (drop (at + gap) text) ≡ length text - (at + gap) = length-drop (at + gap) text in
    let within = p.within in
    record {
      tokens = found;
      gap = take gap (drop at text);
      rest = drop (at + gap) text;
      skipped = skipped;
      before = rw (sym p.left) r.leaves;
      blank = p.blank;
      settled = rw (sym (drop-drop gap at text)) g.settled;
      fault = fault;
      at_place = omega arith;
    }

-- the range of the source has so many bytes
pub range_ends : (source : List ℕ) (from to : ℕ) → from ≤ to → to ≤ length source → from + length (slice_range source from to) ≡ to
range_ends source from to order within =
    let left : to - from ≤ length (drop from source) = simp length-drop (omega arith) in
    let size : length (take (to - from) (drop from source)) ≡ to - from = length-take-le (to - from) (drop from source) left in
    omega arith
