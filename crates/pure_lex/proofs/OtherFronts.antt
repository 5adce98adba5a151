-- What is read where a number, a bound name, a quoted text or a symbol begins.
use Rattle.std.proofs.Common.{◌≡◌, ℕ, suc, ◌+◌, ◌-◌, ◌<◌, Bool, true, false, ◌&&◌, ◌||◌, ◌==◌, List, [], ◌∷◌, ◌++◌, length, take, drop, get_or, refl, sym, ap, ◌∙◌, ◌⊎◌, inl, inr, arith, append_assoc, length-append, drop-cons}
use Rattle.std.specs.List.{list_all}
use Rattle.std.proofs.lemmas.Bool.{and_parts, or_parts, both_ways, false≢true, eqb-true, cond_both, cases_lt, cases_Bool}
use Rattle.std.proofs.lemmas.List.{take-append-drop, length-take-le, length-drop, get_or_past}
use Rattle.pure_grammar.specs.Tokens.Bytes.{is_letter, is_digit, is_empty, head_is, marked, behind}
use Rattle.pure_grammar.specs.Tokens.Comment.{opens_comment}
use Rattle.pure_grammar.specs.Tokens.Token.{is_number, is_quotable, is_quote, is_single, is_pair, is_triple, is_symbol, is_token}
use Rattle.pure_grammar.specs.Tokens.Spelling.{IsFirst, IsFault}
use Rattle.pure_grammar.specs.declared.token.TokenKind.{TokenKind}
use Rattle.pure_grammar.specs.declared.token.TokenKind.TheVariants.{BoundName, Number, Quote, Symbol}
use Rattle.pure_grammar.proofs.Fronts.{marked-is}
use Rattle.pure_grammar.proofs.Gaps.{empty_is}
use Rattle.pure_grammar.proofs.Classes.{class_of, class-token, same_kind, token-nothing, small}
use Rattle.pure_lex.specs.Fronts.{IsCut, IsRun, IsDigits, IsLongest, IsTaken, begins_other, symbol_length}
use Rattle.pure_lex.proofs.Runs.{cut}
use Rattle.pure_lex.proofs.Longest.{head_is-front, behind-is, longest-marked, number-head}
use Rattle.pure_lex.proofs.Firsts.{first-longest, no_first-kind, no_first-opening, no_first, group-longer}
use Rattle.pure_lex.proofs.MarkFronts.{digit-zero, digits-longest, cut-mark, no_first-text, head_is-get}

pub digit-get : (text : List ℕ) → is_digit (get_or text 0 0) ≡ head_is is_digit text
digit-get text = head_is-get is_digit text digit-zero

-- Numbers and bound names

pub number-taken : (text : List ℕ) (len : ℕ) → head_is is_digit text ≡ true → IsDigits text len → IsTaken text Number len
number-taken text len p d = record {
  here = take len text;
  rest = drop len text;
  cut = cut text len d.within;
  short = refl;
  first = first-longest Number (take len text) (drop len text) (omega arith) (λ six. omega arith) (digits-longest text len p d);
}

class-bound_name : class_of 95 ≡ 3
unfolding class_of is_letter is_digit
class-bound_name = refl

pub bound_name-taken : (text : List ℕ) (len : ℕ) → text ≡ 95 ∷ drop 1 text → head_is is_digit (drop 1 text) ≡ true → IsDigits (drop 1 text) len → IsTaken text BoundName (len + 1)
bound_name-taken text len e p d = record {
  here = 95 ∷ take len (drop 1 text);
  rest = drop len (drop 1 text);
  cut = cut-mark 95 len text (drop 1 text) (take len (drop 1 text)) (drop len (drop 1 text)) e (cut (drop 1 text) len d.within);
  short = refl;
  first = first-longest BoundName (95 ∷ take len (drop 1 text)) (drop len (drop 1 text)) (omega arith) (λ six. omega arith)
      (longest-marked 95 is_number (take len (drop 1 text)) (drop len (drop 1 text)) (digits-longest (drop 1 text) len p d));
}

pub bound_name-none : (text : List ℕ) → text ≡ 95 ∷ drop 1 text → head_is is_digit (drop 1 text) ≡ false → IsFault text 0
bound_name-none text e none =
    no_first-text text (95 ∷ drop 1 text) e (no_first-kind BoundName 95 (drop 1 text) class-bound_name (omega arith) (λ here rest cuts p.
    let digit : head_is is_digit (here ++ rest) ≡ true = head_is-front is_digit here rest (number-head here p) in
    both_ways _ none (ap (λ bs. head_is is_digit bs) cuts ∙ digit)))

-- Quoted texts

class-quote : class_of 34 ≡ 5
unfolding class_of is_letter is_digit
class-quote = refl

-- behind the first mark of a quoted text
abbrev closed_text : List ℕ → Bool
closed_text text = marked 34 is_empty (behind is_quotable text)

mark-stops : (bs : List ℕ) → head_is is_quotable (34 ∷ bs) ≡ false
unfolding is_quotable
mark-stops bs = refl

longest-quote : (body rest : List ℕ) → list_all is_quotable body ≡ true → IsLongest is_quote (34 ∷ (body ++ (34 ∷ []))) rest
longest-quote body rest all = longest-marked 34 closed_text (body ++ (34 ∷ [])) rest (record {
  passes = rw (behind-is is_quotable body (34 ∷ []) all (mark-stops [])) refl;
  longest = λ more left e p.
      (let whole : behind is_quotable ((body ++ (34 ∷ [])) ++ more) ≡ 34 ∷ more =
      ap (λ bs. behind is_quotable bs) (append_assoc body (34 ∷ []) more) ∙ behind-is is_quotable body (34 ∷ more) all (mark-stops more) in
      let closed : marked 34 is_empty (34 ∷ more) ≡ true = sym (ap (λ bs. marked 34 is_empty bs) whole) ∙ p in
      empty_is more closed);
})

get_or-some : (bs : List ℕ) (i b : ℕ) → 0 < b → get_or bs i 0 ≡ b → i < length bs
get_or-some bs i b some e = elim (cases_lt i (length bs)) [
  | inl below ↦ below
  | inr past ↦ (let none : get_or bs i 0 ≡ 0 = get_or_past bs i 0 past in absurd (omega arith))
]

pub quote-taken : (text : List ℕ) (len : ℕ) → text ≡ 34 ∷ drop 1 text → IsRun is_quotable (drop 1 text) len → get_or (drop 1 text) len 0 ≡ 34 → IsTaken text Quote (len + 2)
quote-taken text len e r mark =
    let below : len < length (drop 1 text) = get_or-some (drop 1 text) len 34 (omega arith) mark in
    let rest : drop len (drop 1 text) ≡ 34 ∷ drop (suc len) (drop 1 text) = drop-cons (drop 1 text) len 0 below ∙ ap (λ b. b ∷ drop (suc len) (drop 1 text)) mark in
    let size : length (take len (drop 1 text)) ≡ len = length-take-le len (drop 1 text) r.within in
    let whole : length text ≡ suc (length (drop 1 text)) = ap length e in
    let parts : drop 1 text ≡ (take len (drop 1 text) ++ (34 ∷ [])) ++ drop (suc len) (drop 1 text) =
    sym (append_assoc (take len (drop 1 text)) (34 ∷ []) (drop (suc len) (drop 1 text)) ∙ (ap (λ bs. take len (drop 1 text) ++ bs) (sym rest) ∙ take-append-drop len (drop 1 text))) in
    record {
      here = 34 ∷ (take len (drop 1 text) ++ (34 ∷ []));
      rest = drop (suc len) (drop 1 text);
      short = refl;
      cut = record { parts = e ∙ ap (λ bs. 34 ∷ bs) parts; size = simp length-append (omega arith); within = omega arith };
      first = first-longest Quote (34 ∷ (take len (drop 1 text) ++ (34 ∷ []))) (drop (suc len) (drop 1 text)) (omega arith) (λ six. omega arith)
          (longest-quote (take len (drop 1 text)) (drop (suc len) (drop 1 text)) r.all);
    }

behind-longer : (test : ℕ → Bool) (here rest more : List ℕ) (c : ℕ) → behind test here ≡ c ∷ more → behind test (here ++ rest) ≡ c ∷ (more ++ rest)
behind-longer test [] rest more c e = cc
behind-longer test (b ∷ here) rest more c e = elim (cases_Bool (test b)) [
  | inl passes ↦ rw passes (behind-longer test here rest more c (rw passes at e))
  | inr stops ↦ (let same : b ∷ here ≡ c ∷ more = rw stops at e in rw stops (ap (λ bs. bs ++ rest) same))
]

behind-drop : (test : ℕ → Bool) (text : List ℕ) (len : ℕ) → IsRun test text len → behind test text ≡ drop len text
behind-drop test text len r =
    ap (λ bs. behind test bs) (sym (take-append-drop len text)) ∙ behind-is test (take len text) (drop len text) r.all r.next

not-closed : (body here rest : List ℕ) (len : ℕ) → IsRun is_quotable body len → body ≡ here ++ rest → closed_text here ≡ true → get_or body len 0 ≡ 34
not-closed body here rest len r e p =
    let mark = marked-is 34 is_empty (behind is_quotable here) p in
    let left : drop len body ≡ 34 ∷ (mark.rest ++ rest) =
    sym (behind-drop is_quotable body len r) ∙ (ap (λ bs. behind is_quotable bs) e ∙ behind-longer is_quotable here rest mark.rest 34 mark.is) in
    let some : length (drop len body) ≡ suc (length (mark.rest ++ rest)) = ap length left in
    let size : length body - len ≡ suc (length (mark.rest ++ rest)) = simp length-drop at some in
    let below : len < length body = omega arith in
    let whole : get_or body len 0 ∷ drop (suc len) body ≡ 34 ∷ (mark.rest ++ rest) = sym (drop-cons body len 0 below) ∙ left in
    cc

pub quote-none : (text : List ℕ) (len : ℕ) → text ≡ 34 ∷ drop 1 text → IsRun is_quotable (drop 1 text) len → (get_or (drop 1 text) len 0 ≡ 34 → ⊥) → IsFault text 0
quote-none text len e r none =
    no_first-text text (34 ∷ drop 1 text) e (no_first-kind Quote 34 (drop 1 text) class-quote (omega arith) (λ here rest cuts p.
    none (not-closed (drop 1 text) here rest len r cuts p)))

-- Symbols

first-symbol : (here rest : List ℕ) → IsLongest is_symbol here rest → opens_comment (here ++ rest) ≡ false → IsFirst Symbol here rest
first-symbol here rest l none = record {
  token = l.passes;
  longest = λ k more left e p.
      (let same : k ≡ Symbol = same_kind k Symbol (omega arith) (group-longer Symbol k here more l.passes p) in
      let longer : is_token Symbol (here ++ more) ≡ true = rw same at p in
      l.longest more left e longer);
  no_comment = none;
}

triple-pair : (b c d : ℕ) → is_triple b c d ≡ true → is_pair b c ≡ true
unfolding is_triple is_pair
triple-pair b c d p =
    let outer = and_parts (b == 61) ((c == 61) && (d == 62)) p in
    let first : b ≡ 61 = eqb-true b 61 outer.0 in
    let second : c ≡ 61 = eqb-true c 61 (and_parts (c == 61) (d == 62) outer.1).0 in
    rw (first, second) refl

pair-zero : (b : ℕ) → is_pair b 0 ≡ false
unfolding is_pair
pair-zero b =
    let P : Bool → Type 0 = λ v. v ≡ false in
    cond_both (b == 33) _ _ P (λ _. refl) (λ _. cond_both (b == 61) _ _ P (λ _. refl) (λ _. cond_both (b == 58) _ _ P (λ _. refl)
    (λ _. cond_both (b == 91) _ _ P (λ _. refl) (λ _. cond_both (b == 124) _ _ P (λ _. refl) (λ _. refl)))))

triple-zero : (b c : ℕ) → is_triple b c 0 ≡ true → ⊥
unfolding is_triple
triple-zero b c p = let outer = and_parts (b == 61) ((c == 61) && false) p in false≢true (and_parts (c == 61) false outer.1).1

longest-triple : (b c d : ℕ) (more : List ℕ) → is_symbol (b ∷ c ∷ d ∷ more) ≡ true → more ≡ []
longest-triple b c d [] q = refl
longest-triple b c d (x ∷ more) q = cc

symbol-triple : (b c d : ℕ) (rest : List ℕ) → is_triple b c d ≡ true → IsLongest is_symbol (b ∷ c ∷ d ∷ []) rest
symbol-triple b c d rest p = record { passes = p; longest = λ more left e q. longest-triple b c d more q }

longest-pair : (b c : ℕ) (rest more left : List ℕ) → is_triple b c (get_or rest 0 0) ≡ false → rest ≡ more ++ left → is_symbol (b ∷ c ∷ more) ≡ true → more ≡ []
longest-pair b c rest [] left none e q = refl
longest-pair b c rest (x ∷ []) left none e q =
    let third : get_or rest 0 0 ≡ x = ap (λ bs. get_or bs 0 0) e in
    absurd (both_ways (is_triple b c x) (rw third at none) q)
longest-pair b c rest (x ∷ y ∷ more) left none e q = cc

longest-single : (b : ℕ) (rest more left : List ℕ) → is_pair b (get_or rest 0 0) ≡ false → rest ≡ more ++ left → is_symbol (b ∷ more) ≡ true → more ≡ []
longest-single b rest [] left none e q = refl
longest-single b rest (x ∷ []) left none e q =
    let second : get_or rest 0 0 ≡ x = ap (λ bs. get_or bs 0 0) e in
    absurd (both_ways (is_pair b x) (rw second at none) q)
longest-single b rest (x ∷ y ∷ []) left none e q =
    let second : get_or rest 0 0 ≡ x = ap (λ bs. get_or bs 0 0) e in
    absurd (both_ways (is_pair b x) (rw second at none) (triple-pair b x y q))
longest-single b rest (x ∷ y ∷ z ∷ more) left none e q = cc

symbol-cut : (here rest : List ℕ) → IsCut (here ++ rest) here rest (length here)
symbol-cut here rest = record { parts = refl; size = refl; within = simp length-append (omega arith) }

symbol-at : (here rest : List ℕ) → IsLongest is_symbol here rest → opens_comment (here ++ rest) ≡ false → IsTaken (here ++ rest) Symbol (length here)
symbol-at here rest l none = record { here = here; rest = rest; cut = symbol-cut here rest; first = first-symbol here rest l none; short = refl }

-- a symbol of three bytes, else of two, else of one
pub symbol-taken : (text : List ℕ) → 0 < length text → opens_comment text ≡ false → (symbol_length (get_or text 0 0) (get_or text 1 0) (get_or text 2 0) ≡ 0 → ⊥) → IsTaken text Symbol (symbol_length (get_or text 0 0) (get_or text 1 0) (get_or text 2 0))
symbol-taken [] some none len = absurd (omega arith)
symbol-taken (b ∷ []) some none len =
    let P : ℕ → Type 0 = λ n. (n ≡ 0 → ⊥) → IsTaken (b ∷ []) Symbol n in
    cond_both (is_triple b 0 0) _ _ P (λ h. absurd (triple-zero b 0 h)) (λ _. cond_both (is_pair b 0) _ _ P
    (λ h. absurd (both_ways (is_pair b 0) (pair-zero b) h)) (λ _. cond_both (is_single b) _ _ P
    (λ h _. symbol-at (b ∷ []) [] (record { passes = h; longest = λ more left e q. longest-single b [] more left (pair-zero b) e q }) none)
    (λ _ n. absurd (n refl)))) len
symbol-taken (b ∷ c ∷ []) some none len =
    let P : ℕ → Type 0 = λ n. (n ≡ 0 → ⊥) → IsTaken (b ∷ c ∷ []) Symbol n in
    cond_both (is_triple b c 0) _ _ P (λ h. absurd (triple-zero b c h)) (λ t. cond_both (is_pair b c) _ _ P
    (λ h _. symbol-at (b ∷ c ∷ []) [] (record { passes = h; longest = λ more left e q. longest-pair b c [] more left t e q }) none)
    (λ p. cond_both (is_single b) _ _ P
    (λ h _. symbol-at (b ∷ []) (c ∷ []) (record { passes = h; longest = λ more left e q. longest-single b (c ∷ []) more left p e q }) none)
    (λ _ n. absurd (n refl)))) len
symbol-taken (b ∷ c ∷ d ∷ text) some none len =
    let P : ℕ → Type 0 = λ n. (n ≡ 0 → ⊥) → IsTaken (b ∷ c ∷ d ∷ text) Symbol n in
    cond_both (is_triple b c d) _ _ P (λ h _. symbol-at (b ∷ c ∷ d ∷ []) text (symbol-triple b c d text h) none)
    (λ t. cond_both (is_pair b c) _ _ P
    (λ h _. symbol-at (b ∷ c ∷ []) (d ∷ text) (record { passes = h; longest = λ more left e q. longest-pair b c (d ∷ text) more left t e q }) none)
    (λ p. cond_both (is_single b) _ _ P
    (λ h _. symbol-at (b ∷ []) (c ∷ d ∷ text) (record { passes = h; longest = λ more left e q. longest-single b (c ∷ d ∷ text) more left p e q }) none)
    (λ _ n. absurd (n refl)))) len

-- the byte begins symbols alone, or nothing
class-other : (b : ℕ) → begins_other b ≡ false → (class_of b ≡ 6) ⊎ (class_of b ≡ 8)
unfolding class_of
class-other b p =
    let one = or_parts (is_letter b) (is_digit b || ((b == 39) || ((b == 63) || ((b == 95) || (b == 34))))) p in
    let two = or_parts (is_digit b) ((b == 39) || ((b == 63) || ((b == 95) || (b == 34)))) one.1 in
    let three = or_parts (b == 39) ((b == 63) || ((b == 95) || (b == 34))) two.1 in
    let four = or_parts (b == 63) ((b == 95) || (b == 34)) three.1 in
    let five = or_parts (b == 95) (b == 34) four.1 in
    let P : ℕ → Type 0 = λ n. (n ≡ 6) ⊎ (n ≡ 8) in
    rw (one.0, two.0, three.0, four.0, five.0, five.1) (cond_both _ 6 8 P (λ _. inl refl) (λ _. inr refl))

no_symbol : (b c : ℕ) (more : List ℕ) → is_single b ≡ false → is_pair b c ≡ false → (0 < length more → get_or more 0 0 ≡ c) → is_symbol (b ∷ more) ≡ true → ⊥
no_symbol b c [] single pair second p = both_ways _ single p
no_symbol b c (x ∷ []) single pair second p =
    let same : x ≡ c = second (omega arith) in
    both_ways (is_pair b c) pair (rw same at p)
no_symbol b c (x ∷ y ∷ []) single pair second p =
    let same : x ≡ c = second (omega arith) in
    both_ways (is_pair b c) pair (rw same at (triple-pair b x y p))
no_symbol b c (x ∷ y ∷ z ∷ more) single pair second p = cc

second_byte : (here rest : List ℕ) (b : ℕ) (text : List ℕ) → text ≡ b ∷ (here ++ rest) → 0 < length here → get_or here 0 0 ≡ get_or text 1 0
second_byte [] rest b text e some = absurd (omega arith)
second_byte (x ∷ here) rest b text e some = sym (ap (λ bs. get_or bs 1 0) e)

no_length : (b c d : ℕ) → symbol_length b c d ≡ 0 → (is_single b ≡ false) × (is_pair b c ≡ false)
no_length b c d =
    let P : ℕ → Type 0 = λ n. n ≡ 0 → (is_single b ≡ false) × (is_pair b c ≡ false) in
    cond_both (is_triple b c d) _ _ P (λ _ n. absurd (omega arith)) (λ _. cond_both (is_pair b c) _ _ P (λ _ n. absurd (omega arith))
    (λ pair. cond_both (is_single b) _ _ P (λ _ n. absurd (omega arith)) (λ single _. (single, pair))))

no_symbol-token : (text here rest : List ℕ) (kind : TokenKind) → begins_other (get_or text 0 0) ≡ false → is_single (get_or text 0 0) ≡ false → is_pair (get_or text 0 0) (get_or text 1 0) ≡ false → text ≡ here ++ rest → is_token kind here ≡ true → ⊥
no_symbol-token text [] rest kind other single pair e p = token-nothing kind p
no_symbol-token text (b ∷ here) rest kind other single pair e p =
    let first : get_or text 0 0 ≡ b = ap (λ bs. get_or bs 0 0) e in
    let second : 0 < length here → get_or here 0 0 ≡ get_or text 1 0 = λ some. second_byte here rest b text e some in
    let class = class-token kind b here p in
    elim (class-other b (rw first at other)) [
      | inl six ↦ (let same : kind ≡ Symbol = same_kind kind Symbol (omega arith) (sym class ∙ six) in
          no_symbol b (get_or text 1 0) here (rw first at single) (rw first at pair) second (rw same at p))
      | inr eight ↦ small kind (sym class ∙ eight)
    ]

pub symbol-none : (text : List ℕ) → 0 < length text → begins_other (get_or text 0 0) ≡ false → symbol_length (get_or text 0 0) (get_or text 1 0) (get_or text 2 0) ≡ 0 → IsFault text 0
symbol-none text some other len =
    let b : ℕ = get_or text 0 0 in
    let tests = no_length (get_or text 0 0) (get_or text 1 0) (get_or text 2 0) len in
    inl (no_first text some (λ kind here rest e p. no_symbol-token text here rest kind other tests.0 tests.1 e p), refl)

pub symbol-comment : (text : List ℕ) → opens_comment text ≡ true → IsFault text 0
symbol-comment text p = inl (no_first-opening text p, refl)
