-- What is read where the mark of a variable stands.
use Rattle.std.proofs.Common.{◌≡◌, ℕ, zero, suc, ◌+◌, ◌-◌, ◌<◌, ◌≤◌, Bool, true, false, ◌==◌, List, [], ◌∷◌, ◌++◌, length, take, drop, get_or, refl, sym, ap, ◌∙◌, inl, inr, arith, append_assoc, length-append, add-one}
use Rattle.std.proofs.lemmas.Bool.{and_parts, and_right, or_cases, or_left, or_right, both_ways, false_from_ne_true, eqb-true, eq-eqb}
use Rattle.std.proofs.lemmas.List.{take-append-drop, length-take-le, length-drop}
use Rattle.pure_grammar.specs.Tokens.Bytes.{is_letter, is_digit, is_name_byte, head_is, marked}
use Rattle.pure_grammar.specs.Tokens.Token.{is_spelling, is_number, is_indexed, is_schematic, is_long, first_identifier}
use Rattle.pure_grammar.specs.Tokens.Spelling.{IsFirst, HasNoFirst, IsFault}
use Rattle.pure_grammar.specs.declared.token.TokenKind.TheVariants.{TypeVar, Schem}
use Rattle.pure_grammar.proofs.Fronts.{marked-is}
use Rattle.pure_grammar.proofs.Indexed.{name_or_type, letter-not_mark, indexed-head, not-indexed, not-marked}
use Rattle.pure_grammar.proofs.Classes.{class_of}
use Rattle.pure_lex.specs.Fronts.{IsCut, IsRun, IsDigits, IsFront, IsLongest, IsTaken, is_index, HasMarks}
use Rattle.pure_lex.specs.Fronts.HasMarks.{one, two}
use Rattle.pure_lex.proofs.Runs.{cut}
use Rattle.pure_lex.proofs.Longest.{head_is-front, head_is-shorter, is_long-short, is_long-long, longest-marked, longest-named, longest-index, longest-no_index, longest-number}
use Rattle.pure_lex.proofs.Firsts.{first-longest, no_first-kind, spelling-name, spelling-head}
use Rattle.pure_lex.proofs.NameFronts.{run-letter, name-size, all-short, all-long, long-none, long-first}

-- Bytes at their places

letter-zero : is_letter 0 ≡ false
unfolding is_letter
letter-zero = refl

pub digit-zero : is_digit 0 ≡ false
unfolding is_digit
digit-zero = refl

pub head_is-get : (test : ℕ → Bool) (text : List ℕ) → test 0 ≡ false → test (get_or text 0 0) ≡ head_is test text
head_is-get test [] p = p
head_is-get test (b ∷ text) p = refl

marked-get : (test : ℕ → Bool) (text : List ℕ) → test 0 ≡ false → get_or text 0 0 ≡ 46 → test (get_or text 1 0) ≡ marked 46 (head_is test) text
marked-get test [] p e = absurd (omega arith)
marked-get test (b ∷ []) p e = p ∙ sym (and_right (b == 46) false refl)
marked-get test (b ∷ c ∷ text) p e = let same : b == 46 ≡ true = eq-eqb b 46 e in rw same refl

pub letter-get : (text : List ℕ) → is_letter (get_or text 0 0) ≡ head_is is_letter text
letter-get text = head_is-get is_letter text letter-zero

pub dotted_letter-get : (text : List ℕ) → get_or text 0 0 ≡ 46 → is_letter (get_or text 1 0) ≡ marked 46 (head_is is_letter) text
dotted_letter-get text e = marked-get is_letter text letter-zero e

pub dotted_digit-get : (text : List ℕ) → get_or text 0 0 ≡ 46 → is_digit (get_or text 1 0) ≡ marked 46 (head_is is_digit) text
dotted_digit-get text e = marked-get is_digit text digit-zero e

pub first-cons : (text : List ℕ) (b : ℕ) → 0 < b → get_or text 0 0 ≡ b → text ≡ b ∷ drop 1 text
first-cons [] b some e = absurd (omega arith)
first-cons (c ∷ text) b some e = ap (λ x. x ∷ text) e

pub cut-mark : (mark len : ℕ) (text name here rest : List ℕ) → text ≡ mark ∷ name → IsCut name here rest len → IsCut text (mark ∷ here) rest (len + 1)
cut-mark mark len text name here rest e c =
    let parts : text ≡ mark ∷ (here ++ rest) = e ∙ ap (λ bs. mark ∷ bs) c.parts in
    let whole : length text ≡ suc (length name) = ap length e in
    let size = c.size in
    let within = c.within in
    record { parts = parts; size = omega arith; within = omega arith }

-- Type variables

class-type_variable : class_of 39 ≡ 1
unfolding class_of is_letter is_digit
class-type_variable = refl

type_variable-first : (name : List ℕ) (len : ℕ) → head_is is_letter name ≡ true → IsRun is_name_byte name len → IsFirst TypeVar (39 ∷ take len name) (drop len name)
type_variable-first name len letter r =
    first-longest TypeVar (39 ∷ take len name) (drop len name) (omega arith) (λ six. omega arith)
    (longest-marked 39 is_spelling (take len name) (drop len name) (spelling-name (take len name) (drop len name) (run-letter name len letter r) r.all r.next))

pub type_variable-taken : (text : List ℕ) (len : ℕ) → text ≡ 39 ∷ drop 1 text → head_is is_letter (drop 1 text) ≡ true → IsRun is_name_byte (drop 1 text) len → len ≤ 64 → IsTaken text TypeVar (len + 1)
type_variable-taken text len e letter r short =
    let size : length (take len (drop 1 text)) ≡ len = name-size (drop 1 text) len r in
    record {
      here = 39 ∷ take len (drop 1 text);
      rest = drop len (drop 1 text);
      cut = cut-mark 39 len text (drop 1 text) (take len (drop 1 text)) (drop len (drop 1 text)) e (cut (drop 1 text) len r.within);
      first = type_variable-first (drop 1 text) len letter r;
      short = long-none TypeVar (39 ∷ take len (drop 1 text)) (all-short (take len (drop 1 text)) r.all (omega arith)) refl;
    }

pub type_variable-fault : (text : List ℕ) (len : ℕ) → text ≡ 39 ∷ drop 1 text → head_is is_letter (drop 1 text) ≡ true → IsRun is_name_byte (drop 1 text) len → 64 < len → IsFault text 0
type_variable-fault text len e letter r long =
    let size : length (take len (drop 1 text)) ≡ len = name-size (drop 1 text) len r in
    let c = cut-mark 39 len text (drop 1 text) (take len (drop 1 text)) (drop len (drop 1 text)) e (cut (drop 1 text) len r.within) in
    inr (record {
      kind = TypeVar;
      here = 39 ∷ take len (drop 1 text);
      rest = drop len (drop 1 text);
      text = c.parts;
      first = type_variable-first (drop 1 text) len letter r;
      long = long-first TypeVar (39 ∷ take len (drop 1 text)) (all-long (take len (drop 1 text)) r.all (omega arith));
    })

-- a fault where no token of this kind begins
pub no_first-text : (text bytes : List ℕ) → text ≡ bytes → HasNoFirst bytes → IsFault text 0
no_first-text text bytes e none = let h : HasNoFirst text = rw e none in inl (h, refl)

pub type_variable-none : (text : List ℕ) → text ≡ 39 ∷ drop 1 text → head_is is_letter (drop 1 text) ≡ false → IsFault text 0
type_variable-none text e none =
    no_first-text text (39 ∷ drop 1 text) e (no_first-kind TypeVar 39 (drop 1 text) class-type_variable (omega arith) (λ here rest cuts p.
    let letter : head_is is_letter (here ++ rest) ≡ true = head_is-front is_letter here rest (spelling-head here p) in
    both_ways _ none (ap (λ bs. head_is is_letter bs) cuts ∙ letter)))

-- Indexes

pub index-none : (text : List ℕ) → marked 46 (head_is is_digit) text ≡ false → IsFront is_index text 0
index-none text none = record { within = omega arith; longest = longest-no_index text none }

dot-cons : (text : List ℕ) → marked 46 (head_is is_digit) text ≡ true → text ≡ 46 ∷ drop 1 text
dot-cons [] p = cc
dot-cons (b ∷ text) p = let same : b ≡ 46 = eqb-true b 46 (and_parts (b == 46) (head_is is_digit text) p).0 in ap (λ x. x ∷ text) same

dot-digit : (text : List ℕ) → marked 46 (head_is is_digit) text ≡ true → head_is is_digit (drop 1 text) ≡ true
dot-digit [] p = cc
dot-digit (b ∷ text) p = (and_parts (b == 46) (head_is is_digit text) p).1

-- where a digit stands some digits are read
digits-some : (text : List ℕ) (len : ℕ) → head_is is_digit text ≡ true → IsDigits text len → 1 ≤ len
digits-some text zero p d = absurd (both_ways (head_is is_digit text) (d.next (omega arith)) p)
digits-some text (suc len) p d = omega arith

pub digits-longest : (text : List ℕ) (len : ℕ) → head_is is_digit text ≡ true → IsDigits text len → IsLongest is_number (take len text) (drop len text)
digits-longest text len p d =
    let size : length (take len text) ≡ len = length-take-le len text d.within in
    let some : 1 ≤ len = digits-some text len p d in
    let bound = d.bound in
    longest-number (take len text) (drop len text) d.all (omega arith) (omega arith) (λ few. d.next (omega (arith, few)))

pub index-some : (text : List ℕ) (len : ℕ) → marked 46 (head_is is_digit) text ≡ true → IsDigits (drop 1 text) len → IsFront is_index text (len + 1)
index-some text len p d =
    let e : text ≡ 46 ∷ drop 1 text = dot-cons text p in
    let l = longest-index (take len (drop 1 text)) (drop len (drop 1 text)) (digits-longest (drop 1 text) len (dot-digit text p) d) in
    let front : take (len + 1) text ≡ 46 ∷ take len (drop 1 text) = ap (λ t. take (len + 1) t) e ∙ rw add-one refl in
    let rest : drop (len + 1) text ≡ drop len (drop 1 text) = ap (λ t. drop (len + 1) t) e ∙ rw add-one refl in
    let whole : length text ≡ suc (length (drop 1 text)) = ap length e in
    let within = d.within in
    record { within = omega arith; longest = rw (front, rest) l }

-- Schematic variables

class-schematic : class_of 63 ≡ 2
unfolding class_of is_letter is_digit
class-schematic = refl

pub longest-one : (here rest : List ℕ) → IsLongest is_indexed here rest → IsLongest is_schematic (63 ∷ here) rest
longest-one here rest l = longest-marked 63 name_or_type here rest (record {
  passes = or_left (is_indexed here) (marked 39 is_indexed here) l.passes;
  longest = λ more left e p. elim (or_cases (is_indexed (here ++ more)) (marked 39 is_indexed (here ++ more)) p) [
    | inl name ↦ l.longest more left e name
    | inr mark ↦ absurd (not-marked (here ++ more) (head_is-front is_letter here more (indexed-head here l.passes)) mark)
  ];
})

pub longest-two : (here rest : List ℕ) → IsLongest is_indexed here rest → IsLongest is_schematic (63 ∷ 39 ∷ here) rest
longest-two here rest l = longest-marked 63 name_or_type (39 ∷ here) rest (record {
  passes = or_right (is_indexed (39 ∷ here)) (marked 39 is_indexed (39 ∷ here)) l.passes;
  longest = λ more left e p. elim (or_cases (is_indexed (39 ∷ (here ++ more))) (marked 39 is_indexed (39 ∷ (here ++ more))) p) [
    | inl name ↦ absurd (not-indexed (here ++ more) name)
    | inr mark ↦ l.longest more left e mark
  ];
})

-- the name and its index
abbrev indexed_name : List ℕ → ℕ → ℕ → List ℕ
indexed_name name len index = take len name ++ take index (drop len name)

indexed-longest : (name : List ℕ) (len index : ℕ) → head_is is_letter name ≡ true → IsRun is_name_byte name len → IsFront is_index (drop len name) index → IsLongest is_indexed (indexed_name name len index) (drop index (drop len name))
indexed-longest name len index letter r f =
    let stops : head_is is_name_byte (take index (drop len name) ++ drop index (drop len name)) ≡ false = rw take-append-drop r.next in
    longest-named is_index (take len name) (take index (drop len name)) (drop index (drop len name)) (run-letter name len letter r) r.all stops f.longest

indexed-cut : (name : List ℕ) (len index : ℕ) → IsRun is_name_byte name len → IsFront is_index (drop len name) index → IsCut name (indexed_name name len index) (drop index (drop len name)) (len + index)
indexed-cut name len index r f =
    let first_size : length (take len name) ≡ len = name-size name len r in
    let second_size : length (take index (drop len name)) ≡ index = length-take-le index (drop len name) f.within in
    let left : index ≤ length name - len = simp length-drop at f.within in
    let within = r.within in
    record {
      parts = sym (append_assoc (take len name) (take index (drop len name)) (drop index (drop len name))
          ∙ (ap (λ bs. take len name ++ bs) (take-append-drop index (drop len name)) ∙ take-append-drop len name));
      size = simp length-append (omega arith);
      within = omega arith;
    }

indexed-stops : (name : List ℕ) (len index : ℕ) → IsRun is_name_byte name len → head_is is_name_byte (take index (drop len name)) ≡ false
indexed-stops name len index r = head_is-shorter is_name_byte (take index (drop len name)) (drop index (drop len name)) (rw take-append-drop r.next)

indexed-short : (name : List ℕ) (len index : ℕ) → IsRun is_name_byte name len → len ≤ 64 → is_long (indexed_name name len index) ≡ false
indexed-short name len index r short =
    let size : length (take len name) ≡ len = name-size name len r in
    is_long-short (take len name) (take index (drop len name)) r.all (indexed-stops name len index r) (omega arith)

indexed-long : (name : List ℕ) (len index : ℕ) → IsRun is_name_byte name len → 64 < len → is_long (indexed_name name len index) ≡ true
indexed-long name len index r long =
    let size : length (take len name) ≡ len = name-size name len r in
    is_long-long (take len name) (take index (drop len name)) r.all (indexed-stops name len index r) (omega arith)

-- the first identifier of a schematic variable is its name
identifier-one : (here : List ℕ) → head_is is_letter here ≡ true → first_identifier Schem (63 ∷ here) ≡ here
identifier-one [] p = cc
identifier-one (b ∷ here) p =
    let other : b == 39 ≡ false = false_from_ne_true (b == 39) (λ mark. both_ways (is_letter 39) letter-not_mark (ap is_letter (sym (eqb-true b 39 mark)) ∙ p)) in
    rw other refl

record IsSchematic (text : List ℕ) (marks : ℕ) (here rest : List ℕ) : Type 0 where
  first : IsFirst Schem (take marks text ++ here) rest
  identifier : first_identifier Schem (take marks text ++ here) ≡ here

schematic-is : {text : List ℕ} {marks : ℕ} (here rest : List ℕ) → HasMarks text marks → IsLongest is_indexed here rest → IsSchematic text marks here rest
schematic-is here rest (one name other) l = record {
  first = first-longest Schem (63 ∷ here) rest (omega arith) (λ six. omega arith) (longest-one here rest l);
  identifier = identifier-one here (indexed-head here l.passes);
}
schematic-is here rest (two name) l = record {
  first = first-longest Schem (63 ∷ 39 ∷ here) rest (omega arith) (λ six. omega arith) (longest-two here rest l);
  identifier = refl;
}

pub marks-within : {text : List ℕ} {marks : ℕ} → HasMarks text marks → marks ≤ length text
marks-within (one name other) = omega arith
marks-within (two name) = omega arith

schematic-cut : (text : List ℕ) (marks len index : ℕ) → HasMarks text marks → IsRun is_name_byte (drop marks text) len → IsFront is_index (drop len (drop marks text)) index → IsCut text (take marks text ++ indexed_name (drop marks text) len index) (drop index (drop len (drop marks text))) (marks + len + index)
schematic-cut text marks len index h r f =
    let inner = indexed-cut (drop marks text) len index r f in
    let within = marks-within h in
    let first_size : length (take marks text) ≡ marks = length-take-le marks text within in
    let second_size = inner.size in
    let inner_within : len + index ≤ length text - marks = simp length-drop at inner.within in
    let parts = inner.parts in
    let whole : take marks text ++ drop marks text ≡ text = take-append-drop marks text in
    record {
      parts = sym (append_assoc (take marks text) (indexed_name (drop marks text) len index) (drop index (drop len (drop marks text)))
          ∙ (ap (λ bs. take marks text ++ bs) (sym parts) ∙ whole));
      size = rw (length-append (take marks text) (indexed_name (drop marks text) len index)) (omega (arith, second_size, first_size));
      within = omega arith;
    }

pub schematic-taken : (text : List ℕ) (marks len index : ℕ) → HasMarks text marks → head_is is_letter (drop marks text) ≡ true → IsRun is_name_byte (drop marks text) len → IsFront is_index (drop len (drop marks text)) index → len ≤ 64 → IsTaken text Schem (marks + len + index)
schematic-taken text marks len index h letter r f short =
    let s = schematic-is (indexed_name (drop marks text) len index) (drop index (drop len (drop marks text))) h (indexed-longest (drop marks text) len index letter r f) in
    let p : is_long (first_identifier Schem (take marks text ++ indexed_name (drop marks text) len index)) ≡ false =
    ap is_long s.identifier ∙ indexed-short (drop marks text) len index r short in
    record {
      here = take marks text ++ indexed_name (drop marks text) len index;
      rest = drop index (drop len (drop marks text));
      cut = schematic-cut text marks len index h r f;
      first = s.first;
      short = long-none Schem (take marks text ++ indexed_name (drop marks text) len index) p refl;
    }

pub schematic-fault : (text : List ℕ) (marks len index : ℕ) → HasMarks text marks → head_is is_letter (drop marks text) ≡ true → IsRun is_name_byte (drop marks text) len → IsFront is_index (drop len (drop marks text)) index → 64 < len → IsFault text 0
schematic-fault text marks len index h letter r f long =
    let s = schematic-is (indexed_name (drop marks text) len index) (drop index (drop len (drop marks text))) h (indexed-longest (drop marks text) len index letter r f) in
    let c = schematic-cut text marks len index h r f in
    let p : is_long (first_identifier Schem (take marks text ++ indexed_name (drop marks text) len index)) ≡ true =
    ap is_long s.identifier ∙ indexed-long (drop marks text) len index r long in
    inr (record {
      kind = Schem;
      here = take marks text ++ indexed_name (drop marks text) len index;
      rest = drop index (drop len (drop marks text));
      text = c.parts;
      first = s.first;
      long = long-first Schem (take marks text ++ indexed_name (drop marks text) len index) p;
    })

-- what stands behind the marks of a schematic variable is a name
marks-name : {text : List ℕ} {marks : ℕ} (here rest : List ℕ) → HasMarks text marks → text ≡ 63 ∷ (here ++ rest) → name_or_type here ≡ true → head_is is_letter (drop marks text) ≡ true
marks-name here rest (one name other) e p =
    let tail : name ≡ here ++ rest = cc in
    elim (or_cases (is_indexed here) (marked 39 is_indexed here) p) [
      | inl name_here ↦ ap (λ bs. head_is is_letter bs) tail ∙ head_is-front is_letter here rest (indexed-head here name_here)
      | inr mark ↦ (let m = marked-is 39 is_indexed here mark in
          let text : name ≡ 39 ∷ (m.rest ++ rest) = tail ∙ ap (λ bs. bs ++ rest) m.is in
          absurd (both_ways _ other (ap (λ bs. head_is (λ b. b == 39) bs) text)))
    ]
marks-name here rest (two name) e p =
    let tail : 39 ∷ name ≡ here ++ rest = cc in
    elim (or_cases (is_indexed here) (marked 39 is_indexed here) p) [
      | inl name_here ↦ (let letter : head_is is_letter (here ++ rest) ≡ true = head_is-front is_letter here rest (indexed-head here name_here) in
          absurd (both_ways (is_letter 39) letter-not_mark (ap (λ bs. head_is is_letter bs) tail ∙ letter)))
      | inr mark ↦ (let m = marked-is 39 is_indexed here mark in
          let text : 39 ∷ name ≡ 39 ∷ (m.rest ++ rest) = tail ∙ ap (λ bs. bs ++ rest) m.is in
          let same : name ≡ m.rest ++ rest = cc in
          ap (λ bs. head_is is_letter bs) same ∙ head_is-front is_letter m.rest rest (indexed-head m.rest m.passes))
    ]

marks-cons : {text : List ℕ} {marks : ℕ} → HasMarks text marks → text ≡ 63 ∷ drop 1 text
marks-cons (one name other) = refl
marks-cons (two name) = refl

pub schematic-none : (text : List ℕ) (marks : ℕ) → HasMarks text marks → head_is is_letter (drop marks text) ≡ false → IsFault text 0
schematic-none text marks h none =
    let e = marks-cons h in
    no_first-text text (63 ∷ drop 1 text) e (no_first-kind Schem 63 (drop 1 text) class-schematic (omega arith) (λ here rest cuts p.
    both_ways _ none (marks-name here rest h (e ∙ ap (λ bs. 63 ∷ bs) cuts) (and_parts (63 == 63) (name_or_type here) p).1)))

-- the marks that stand here
pub marks-two : (text : List ℕ) → get_or text 0 0 ≡ 63 → get_or text 1 0 ≡ 39 → HasMarks text 2
marks-two [] p q = absurd (omega arith)
marks-two (b ∷ []) p q = absurd (omega arith)
marks-two (b ∷ c ∷ text) p q = rw (p, q) (two text)

pub marks-one : (text : List ℕ) → get_or text 0 0 ≡ 63 → (get_or text 1 0 ≡ 39 → ⊥) → HasMarks text 1
marks-one [] p q = absurd (omega arith)
marks-one (b ∷ []) p q = rw p (one [] refl)
marks-one (b ∷ c ∷ text) p q = rw p (one (c ∷ text) (false_from_ne_true (c == 39) (λ h. q (eqb-true c 39 h))))
