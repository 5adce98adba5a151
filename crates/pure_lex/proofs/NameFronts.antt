-- What is read where a name begins.
use Rattle.std.proofs.Common.{◌≡◌, ℕ, zero, suc, ◌+◌, ◌-◌, ◌<◌, ◌≤◌, true, false, ◌||◌, ◌==◌, List, [], ◌∷◌, ◌++◌, length, take, drop, refl, sym, ap, ◌∙◌, inl, inr, arith, append_assoc, length-append, Some, None}
use Rattle.std.specs.List.{list_all}
use Rattle.std.proofs.lemmas.Bool.{or_left, both_ways, cases_Bool}
use Rattle.std.proofs.lemmas.List.{append-nil, take-append-drop, length-take-le, length-drop, drop-drop}
use Rattle.pure_grammar.specs.Tokens.Bytes.{is_letter, is_digit, is_name_byte, head_is, marked}
use Rattle.pure_grammar.specs.Tokens.Token.{is_keyword, is_long, long_identifier, first_identifier, second_identifier, tail}
use Rattle.pure_grammar.specs.Tokens.Spelling.{IsFirst, IsFault}
use Rattle.pure_grammar.specs.declared.token.TokenKind.{TokenKind}
use Rattle.pure_grammar.specs.declared.token.TokenKind.TheVariants.{Qualified}
use Rattle.pure_grammar.proofs.Fronts.{marked-is}
use Rattle.pure_lex.specs.Fronts.{IsCut, name_kind, IsRun, IsTaken}
use Rattle.pure_lex.proofs.Runs.{cut}
use Rattle.pure_lex.proofs.Longest.{behind-is, is_long-short, is_long-long}
use Rattle.pure_lex.proofs.Firsts.{first-name, first-qualified, dot-stops}

letter-name : (b : ℕ) → is_letter b ≡ true → is_name_byte b ≡ true
unfolding is_name_byte
letter-name b p = or_left (is_letter b) (is_digit b || ((b == 95) || (b == 39))) p

-- a run of name bytes where a letter stands begins with it
pub run-letter : (text : List ℕ) (len : ℕ) → head_is is_letter text ≡ true → IsRun is_name_byte text len → head_is is_letter (take len text) ≡ true
run-letter [] len letter r = cc
run-letter (b ∷ text) zero letter r = absurd (both_ways (is_name_byte b) r.next (letter-name b letter))
run-letter (b ∷ text) (suc len) letter r = letter

-- what a name is cut into
name-cut : (text : List ℕ) (len : ℕ) → IsRun is_name_byte text len → take len text ++ drop len text ≡ text
name-cut text len r = take-append-drop len text

pub name-size : (text : List ℕ) (len : ℕ) → IsRun is_name_byte text len → length (take len text) ≡ len
name-size text len r = length-take-le len text r.within

pub long-none : (kind : TokenKind) (bs : List ℕ) → is_long (first_identifier kind bs) ≡ false → is_long (second_identifier kind bs) ≡ false → long_identifier kind bs ≡ None
long-none kind bs p q = rw (p, q) refl

pub long-first : (kind : TokenKind) (bs : List ℕ) → is_long (first_identifier kind bs) ≡ true → long_identifier kind bs ≡ Some 0
long-first kind bs p = rw p refl

long-second : (kind : TokenKind) (bs : List ℕ) → is_long (first_identifier kind bs) ≡ false → is_long (second_identifier kind bs) ≡ true → long_identifier kind bs ≡ Some (length bs - length (second_identifier kind bs))
long-second kind bs p q = rw (p, q) refl

-- Words and identifiers

pub name_kind-identifier : (name : List ℕ) → first_identifier (name_kind name) name ≡ name
name_kind-identifier name = elim (cases_Bool (is_keyword name)) [ inl keyword ↦ rw keyword refl | inr other ↦ rw other refl ]

pub name_kind-second : (name : List ℕ) → second_identifier (name_kind name) name ≡ []
name_kind-second name = elim (cases_Bool (is_keyword name)) [ inl keyword ↦ rw keyword refl | inr other ↦ rw other refl ]

name-first : (text : List ℕ) (len : ℕ) → head_is is_letter text ≡ true → IsRun is_name_byte text len → marked 46 (head_is is_letter) (drop len text) ≡ false → IsFirst (name_kind (take len text)) (take len text) (drop len text)
name-first text len letter r none = first-name (take len text) (drop len text) (run-letter text len letter r) r.all r.next none

pub all-long : (name : List ℕ) → list_all is_name_byte name ≡ true → 64 < length name → is_long name ≡ true
all-long name all long = let p : is_long (name ++ []) ≡ true = is_long-long name [] all refl long in rw append-nil at p

pub all-short : (name : List ℕ) → list_all is_name_byte name ≡ true → length name ≤ 64 → is_long name ≡ false
all-short name all short = let p : is_long (name ++ []) ≡ false = is_long-short name [] all refl short in rw append-nil at p

pub name-taken : (text : List ℕ) (len : ℕ) → head_is is_letter text ≡ true → IsRun is_name_byte text len → marked 46 (head_is is_letter) (drop len text) ≡ false → len ≤ 64 → IsTaken text (name_kind (take len text)) len
name-taken text len letter r none short =
    let name = take len text in
    let size : length (take len text) ≡ len = name-size text len r in
    let first : is_long (first_identifier (name_kind (take len text)) (take len text)) ≡ false = rw name_kind-identifier (all-short (take len text) r.all (omega arith)) in
    let second : is_long (second_identifier (name_kind (take len text)) (take len text)) ≡ false = rw name_kind-second refl in
    record {
      here = take len text;
      rest = drop len text;
      cut = cut text len r.within;
      first = name-first text len letter r none;
      short = long-none (name_kind (take len text)) (take len text) first second;
    }

pub name-fault : (text : List ℕ) (len : ℕ) → head_is is_letter text ≡ true → IsRun is_name_byte text len → marked 46 (head_is is_letter) (drop len text) ≡ false → 64 < len → IsFault text 0
name-fault text len letter r none long =
    let size : length (take len text) ≡ len = name-size text len r in
    let first : is_long (first_identifier (name_kind (take len text)) (take len text)) ≡ true = rw name_kind-identifier (all-long (take len text) r.all (omega arith)) in
    inr (record {
      kind = name_kind (take len text);
      here = take len text;
      rest = drop len text;
      text = sym (take-append-drop len text);
      first = name-first text len letter r none;
      long = long-first (name_kind (take len text)) (take len text) first;
    })

-- Qualified names

-- a dot and a letter behind the first name
pub record IsDotted (text : List ℕ) (len : ℕ) : Type 0 where
  pub is : drop len text ≡ 46 ∷ drop (len + 1) text
  pub letter : head_is is_letter (drop (len + 1) text) ≡ true
  pub within : len + 1 ≤ length text

pub dotted : (text : List ℕ) (len : ℕ) → marked 46 (head_is is_letter) (drop len text) ≡ true → IsDotted text len
dotted text len p =
    let mark = marked-is 46 (head_is is_letter) (drop len text) p in
    let behind_mark : drop (len + 1) text ≡ mark.rest = sym (drop-drop 1 len text) ∙ ap (λ bs. drop 1 bs) mark.is in
    let some : length (drop len text) ≡ suc (length mark.rest) = ap length mark.is in
    let left : length text - len ≡ suc (length mark.rest) = simp length-drop at some in
    record {
      is = mark.is ∙ ap (λ bs. 46 ∷ bs) (sym behind_mark);
      letter = ap (λ bs. head_is is_letter bs) behind_mark ∙ mark.passes;
      within = omega arith;
    }

-- the bytes of the qualified name
abbrev whole_name : List ℕ → ℕ → ℕ → List ℕ
whole_name text len second = take len text ++ (46 ∷ take second (drop (len + 1) text))

qualified-cut : (text : List ℕ) (len second : ℕ) → IsRun is_name_byte text len → IsDotted text len → IsRun is_name_byte (drop (len + 1) text) second → IsCut text (whole_name text len second) (drop second (drop (len + 1) text)) (len + 1 + second)
qualified-cut text len second r dot s =
    let inner : take second (drop (len + 1) text) ++ drop second (drop (len + 1) text) ≡ drop (len + 1) text = take-append-drop second (drop (len + 1) text) in
    let first_size : length (take len text) ≡ len = name-size text len r in
    let second_size : length (take second (drop (len + 1) text)) ≡ second = name-size (drop (len + 1) text) second s in
    let left : second ≤ length text - (len + 1) = simp length-drop at s.within in
    let within = dot.within in
    record {
      parts = sym (append_assoc (take len text) (46 ∷ take second (drop (len + 1) text)) (drop second (drop (len + 1) text))
          ∙ (ap (λ bs. take len text ++ (46 ∷ bs)) inner ∙ (ap (λ bs. take len text ++ bs) (sym dot.is) ∙ take-append-drop len text)));
      size = simp length-append (omega arith);
      within = omega arith;
    }

qualified-first : (text : List ℕ) (len second : ℕ) → head_is is_letter text ≡ true → IsRun is_name_byte text len → IsDotted text len → IsRun is_name_byte (drop (len + 1) text) second → IsFirst Qualified (whole_name text len second) (drop second (drop (len + 1) text))
qualified-first text len second letter r dot s =
    first-qualified (take len text) (take second (drop (len + 1) text)) (drop second (drop (len + 1) text))
    (run-letter text len letter r) r.all (run-letter (drop (len + 1) text) second dot.letter s) s.all s.next

second-is : (name second : List ℕ) → list_all is_name_byte name ≡ true → second_identifier Qualified (name ++ (46 ∷ second)) ≡ second
second-is name second all = ap tail (behind-is is_name_byte name (46 ∷ second) all (dot-stops second))

pub qualified-taken : (text : List ℕ) (len second : ℕ) → head_is is_letter text ≡ true → IsRun is_name_byte text len → IsDotted text len → IsRun is_name_byte (drop (len + 1) text) second → len ≤ 64 → second ≤ 64 → IsTaken text Qualified (len + 1 + second)
qualified-taken text len second letter r dot s short also =
    let name : List ℕ = take len text in
    let first_size : length (take len text) ≡ len = name-size text len r in
    let second_size : length (take second (drop (len + 1) text)) ≡ second = name-size (drop (len + 1) text) second s in
    let p : is_long (take len text ++ (46 ∷ take second (drop (len + 1) text))) ≡ false =
    is_long-short (take len text) (46 ∷ take second (drop (len + 1) text)) r.all (dot-stops (take second (drop (len + 1) text))) (omega arith) in
    let q : is_long (second_identifier Qualified (whole_name text len second)) ≡ false =
    ap is_long (second-is (take len text) (take second (drop (len + 1) text)) r.all) ∙ all-short (take second (drop (len + 1) text)) s.all (omega arith) in
    record {
      here = whole_name text len second;
      rest = drop second (drop (len + 1) text);
      cut = qualified-cut text len second r dot s;
      first = qualified-first text len second letter r dot s;
      short = long-none Qualified (whole_name text len second) p q;
    }

pub qualified-fault : (text : List ℕ) (len second : ℕ) → head_is is_letter text ≡ true → IsRun is_name_byte text len → IsDotted text len → IsRun is_name_byte (drop (len + 1) text) second → 64 < len → IsFault text 0
qualified-fault text len second letter r dot s long =
    let first_size : length (take len text) ≡ len = name-size text len r in
    let p : is_long (take len text ++ (46 ∷ take second (drop (len + 1) text))) ≡ true =
    is_long-long (take len text) (46 ∷ take second (drop (len + 1) text)) r.all (dot-stops (take second (drop (len + 1) text))) (omega arith) in
    let c = qualified-cut text len second r dot s in
    inr (record {
      kind = Qualified;
      here = whole_name text len second;
      rest = drop second (drop (len + 1) text);
      text = c.parts;
      first = qualified-first text len second letter r dot s;
      long = long-first Qualified (whole_name text len second) p;
    })

pub qualified-fault_second : (text : List ℕ) (len second : ℕ) → head_is is_letter text ≡ true → IsRun is_name_byte text len → IsDotted text len → IsRun is_name_byte (drop (len + 1) text) second → len ≤ 64 → 64 < second → IsFault text (len + 1)
qualified-fault_second text len second letter r dot s short long =
    let first_size : length (take len text) ≡ len = name-size text len r in
    let second_size : length (take second (drop (len + 1) text)) ≡ second = name-size (drop (len + 1) text) second s in
    let p : is_long (take len text ++ (46 ∷ take second (drop (len + 1) text))) ≡ false =
    is_long-short (take len text) (46 ∷ take second (drop (len + 1) text)) r.all (dot-stops (take second (drop (len + 1) text))) (omega arith) in
    let is = second-is (take len text) (take second (drop (len + 1) text)) r.all in
    let q : is_long (second_identifier Qualified (whole_name text len second)) ≡ true = ap is_long is ∙ all-long (take second (drop (len + 1) text)) s.all (omega arith) in
    let c = qualified-cut text len second r dot s in
    let size = c.size in
    let left : length (second_identifier Qualified (whole_name text len second)) ≡ second = ap length is ∙ second_size in
    let skipped : length (whole_name text len second) - length (second_identifier Qualified (whole_name text len second)) ≡ len + 1 = omega (arith, left, size) in
    inr (record {
      kind = Qualified;
      here = whole_name text len second;
      rest = drop second (drop (len + 1) text);
      text = c.parts;
      first = qualified-first text len second letter r dot s;
      long = long-second Qualified (whole_name text len second) p q ∙ ap Some skipped;
    })
