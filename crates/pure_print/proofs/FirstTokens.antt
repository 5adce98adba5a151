-- The tokens that printing writes, and what may stand behind each.
use Rattle.std.proofs.Common.{◌≡◌, ℕ, ◌+◌, ◌%◌, ◌^◌, ◌<◌, ◌≤◌, Bool, true, false, ◌&&◌, ◌||◌, ◌==◌, List, [], ◌∷◌, ◌++◌, length, refl, sym, ap, ◌∙◌, inl, inr, arith, append-nil, length-append}
use Rattle.std.specs.Prelude.{None, nat_eq}
use Rattle.std.specs.List.{list_all}
use Rattle.std.specs.Fmt.{decimal}
use Rattle.std.proofs.lemmas.Fmt.{decimal_by_steps, length-decimal-le}
use Rattle.std.proofs.lemmas.Bool.{and_parts, and_from, or_parts, both_ways, eqb-true, cases_Bool, false_from_ne_true}
use Rattle.std.proofs.lemmas.Bool.Decides.{nat_tests}
use Rattle.std.proofs.lemmas.List.Folds.{list_all-append}
use Rattle.pure_grammar.specs.declared.token.TokenKind.TheVariants.{Word, Ident, Qualified, TypeVar, Schem, BoundName}
use Rattle.pure_grammar.specs.Tokens.Bytes.{is_letter, is_digit, is_name_byte, is_empty, head_is, marked, behind}
use Rattle.pure_grammar.specs.Tokens.Token.{is_spelling, is_qualified, is_number, is_indexed, is_long, is_keyword, long_identifier, first_identifier, second_identifier, tail}
use Rattle.pure_grammar.specs.Tokens.Spelling.{IsFirst}
use Rattle.pure_grammar.proofs.Indexed.{letter-not_mark}
use Rattle.pure_grammar.proofs.Classes.{one_kind}
use Rattle.pure_lex.specs.Fronts.{IsLongest, is_index, name_kind}
use Rattle.pure_lex.proofs.Longest.{behind-is, longest-marked, longest-named, longest-number, longest-index, longest-no_index, is_long-short}
use Rattle.pure_lex.proofs.Firsts.{first-longest, first-name, first-qualified, spelling-name, dot-stops}
use Rattle.pure_lex.proofs.NameFronts.{name_kind-identifier, name_kind-second, long-none, all-short}
use Rattle.pure_lex.proofs.MarkFronts.{longest-one, longest-two}
use Rattle.pure_print.specs.NameText.{index_text}
use Rattle.pure_print.specs.Readable.{IsIdentifier, IsShortIndex}
use Rattle.pure_print.proofs.Bits.{goes_on, Stops}

-- What may stand behind a name or an index: no name byte, no dot, no digit.

head_is-fewer : (p q : ℕ → Bool) → ((b : ℕ) → p b ≡ false → q b ≡ false) → (bs : List ℕ) → head_is p bs ≡ false → head_is q bs ≡ false
head_is-fewer p q fewer [] h = refl
head_is-fewer p q fewer (b ∷ bs) h = fewer b h

pub stops-name : (rest : List ℕ) → Stops rest → head_is is_name_byte rest ≡ false
stops-name = head_is-fewer goes_on is_name_byte (λ b h. (or_parts (is_name_byte b) (b == 46) h).0)

stops-dotted : (test : List ℕ → Bool) (rest : List ℕ) → Stops rest → marked 46 test rest ≡ false
stops-dotted test [] h = refl
stops-dotted test (b ∷ bs) h = rw ((or_parts (is_name_byte b) (b == 46) h).1) refl

name_byte-digit : (b : ℕ) → is_name_byte b ≡ false → is_digit b ≡ false
unfolding is_name_byte
name_byte-digit b h = (or_parts (is_digit b) ((b == 95) || (b == 39)) (or_parts (is_letter b) (is_digit b || ((b == 95) || (b == 39))) h).1).0

pub stops-digit : (rest : List ℕ) → Stops rest → head_is is_digit rest ≡ false
stops-digit rest h = head_is-fewer is_name_byte is_digit name_byte-digit rest (stops-name rest h)

-- Identifiers

pub record IsSpelled (name : List ℕ) : Type 0 where
  pub letter : head_is is_letter name ≡ true
  pub all : list_all is_name_byte name ≡ true
  pub short : length name ≤ 64

all-behind : (test : ℕ → Bool) (bs : List ℕ) → is_empty (behind test bs) ≡ true → list_all test bs ≡ true
all-behind test [] p = refl
all-behind test (b ∷ bs) p = elim (cases_Bool (test b)) [
  | inl yes_b ↦ rw yes_b (all-behind test bs (rw yes_b at p))
  | inr no_b ↦ (let none : is_empty (b ∷ bs) ≡ true = rw no_b at p in cc)
]

pub identifier-spelled : (name : List ℕ) → IsIdentifier name → IsSpelled name
identifier-spelled name h =
    let parts = and_parts (head_is is_letter name) (is_empty (behind is_name_byte name)) h.0 in
    record { letter = parts.0; all = all-behind is_name_byte name parts.1; short = h.1 }

pub identifier-first : (name rest : List ℕ) → IsSpelled name → Stops rest → IsFirst (name_kind name) name rest
identifier-first name rest s h = first-name name rest s.letter s.all (stops-name rest h) (stops-dotted (head_is is_letter) rest h)

pub identifier-short : (name : List ℕ) → IsSpelled name → long_identifier (name_kind name) name ≡ None
identifier-short name s =
    let first : is_long (first_identifier (name_kind name) name) ≡ false = rw (name_kind-identifier name) (all-short name s.all s.short) in
    let second : is_long (second_identifier (name_kind name) name) ≡ false = rw (name_kind-second name) refl in
    long-none (name_kind name) name first second

-- Qualified names

pub qualified_name-first : (first second rest : List ℕ) → IsSpelled first → IsSpelled second → Stops rest → IsFirst Qualified (first ++ (46 ∷ second)) rest
qualified_name-first first second rest s t h = first-qualified first second rest s.letter s.all t.letter t.all (stops-name rest h)

pub qualified_name-short : (first second : List ℕ) → IsSpelled first → IsSpelled second → long_identifier Qualified (first ++ (46 ∷ second)) ≡ None
qualified_name-short first second s t =
    let one : is_long (first ++ (46 ∷ second)) ≡ false = is_long-short first (46 ∷ second) s.all (dot-stops second) s.short in
    let is : second_identifier Qualified (first ++ (46 ∷ second)) ≡ second = ap tail (behind-is is_name_byte first (46 ∷ second) s.all (dot-stops second)) in
    let two : is_long (second_identifier Qualified (first ++ (46 ∷ second))) ≡ false = ap is_long is ∙ all-short second t.all t.short in
    long-none Qualified (first ++ (46 ∷ second)) one two

pub qualified_name-is : (first second : List ℕ) → IsSpelled first → IsSpelled second → is_qualified (first ++ (46 ∷ second)) ≡ true
qualified_name-is first second s t = let first_of = qualified_name-first first second [] s t refl in first_of.token

pub identifier-not_qualified : (name : List ℕ) → IsSpelled name → is_qualified name ≡ false
identifier-not_qualified name s = false_from_ne_true (is_qualified name) (λ p.
    let same : name_kind name ≡ Qualified = one_kind (name_kind name) Qualified name (identifier-first name [] s refl).token p in
    elim (cases_Bool (is_keyword name)) [
      | inl keyword ↦ (let word : Word ≡ Qualified = rw keyword at same in cc)
      | inr other ↦ (let word : Ident ≡ Qualified = rw other at same in cc)
    ])

-- Type variables

pub typ_variable-first : (name rest : List ℕ) → IsSpelled name → Stops rest → IsFirst TypeVar (39 ∷ name) rest
typ_variable-first name rest s h =
    first-longest TypeVar (39 ∷ name) rest (omega arith) (λ six. omega arith) (longest-marked 39 is_spelling name rest (spelling-name name rest s.letter s.all (stops-name rest h)))

pub typ_variable-short : (name : List ℕ) → IsSpelled name → long_identifier TypeVar (39 ∷ name) ≡ None
typ_variable-short name s = long-none TypeVar (39 ∷ name) (all-short name s.all s.short) refl

-- Numerals

digit-is : (d : ℕ) → d < 10 → is_digit (48 + d) ≡ true
unfolding is_digit
digit-is d h = grind (arith, nat_tests)

record IsNumeral (ds : List ℕ) : Type 0 where
  all : list_all is_digit ds ≡ true
  some : 1 ≤ length ds

numeral : (n : ℕ) → n < 2 ^ 64 → IsNumeral (decimal n)
numeral = decimal_by_steps (λ n ds. IsNumeral ds)
    (λ m small. record { all = and_from (is_digit (48 + m)) true (digit-is m small) refl; some = omega arith })
    (λ m ds large h. record {
      all = list_all-append is_digit ds ((48 + m % 10) ∷ []) ∙ and_from (list_all is_digit ds) (is_digit (48 + m % 10) && true) h.all (and_from (is_digit (48 + m % 10)) true (digit-is (m % 10) (omega arith)) refl);
      some = omega (arith, h.some, length-append ds ((48 + m % 10) ∷ []));
    })

pub numeral-longest : (n : ℕ) (rest : List ℕ) → IsShortIndex n → head_is is_digit rest ≡ false → IsLongest is_number (decimal n) rest
numeral-longest n rest short stops =
    let d = numeral n (omega arith) in
    longest-number (decimal n) rest d.all d.some (length-decimal-le 9 n (omega arith) (omega arith) (omega arith)) (λ few. stops)

-- Bound names: a dot may stand behind them

pub bound-first : (n : ℕ) (rest : List ℕ) → IsShortIndex n → head_is is_digit rest ≡ false → IsFirst BoundName (95 ∷ decimal n) rest
bound-first n rest short stops =
    first-longest BoundName (95 ∷ decimal n) rest (omega arith) (λ six. omega arith) (longest-marked 95 is_number (decimal n) rest (numeral-longest n rest short stops))

-- Schematic variables

index-longest : (i : ℕ) (rest : List ℕ) → IsShortIndex i → Stops rest → IsLongest is_index (index_text i) rest
index-longest i rest short h = elim (cases_Bool (nat_eq i 0)) [
  | inl zero_i ↦ rw zero_i (longest-no_index rest (stops-dotted (head_is is_digit) rest h))
  | inr some_i ↦ rw some_i (longest-index (decimal i) rest (numeral-longest i rest short (stops-digit rest h)))
]

-- no name byte begins an index
index-stops : (i : ℕ) (rest : List ℕ) → Stops rest → head_is is_name_byte (index_text i ++ rest) ≡ false
index-stops i rest h = elim (cases_Bool (nat_eq i 0)) [
  | inl zero_i ↦ rw zero_i (stops-name rest h)
  | inr some_i ↦ rw some_i (dot-stops (decimal i ++ rest))
]

indexed-longest : (name rest : List ℕ) (i : ℕ) → IsSpelled name → IsShortIndex i → Stops rest → IsLongest is_indexed (name ++ index_text i) rest
indexed-longest name rest i s short h = longest-named is_index name (index_text i) rest s.letter s.all (index-stops i rest h) (index-longest i rest short h)

pub schematic-first : (name rest : List ℕ) (i : ℕ) → IsSpelled name → IsShortIndex i → Stops rest → IsFirst Schem (63 ∷ (name ++ index_text i)) rest
schematic-first name rest i s short h =
    first-longest Schem (63 ∷ (name ++ index_text i)) rest (omega arith) (λ six. omega arith) (longest-one (name ++ index_text i) rest (indexed-longest name rest i s short h))

pub typ_schematic-first : (name rest : List ℕ) (i : ℕ) → IsSpelled name → IsShortIndex i → Stops rest → IsFirst Schem (63 ∷ 39 ∷ (name ++ index_text i)) rest
typ_schematic-first name rest i s short h =
    first-longest Schem (63 ∷ 39 ∷ (name ++ index_text i)) rest (omega arith) (λ six. omega arith) (longest-two (name ++ index_text i) rest (indexed-longest name rest i s short h))

-- the name of terms begins with no apostrophe
pub spelled-head : (name more : List ℕ) → IsSpelled name → head_is (λ b. b == 39) (name ++ more) ≡ false
spelled-head [] more s = let letter = s.letter in cc
spelled-head (b ∷ name) more s = false_from_ne_true (b == 39) (λ mark. both_ways (is_letter 39) letter-not_mark (ap is_letter (sym (eqb-true b 39 mark)) ∙ s.letter))

indexed-short : (name : List ℕ) (i : ℕ) → IsSpelled name → is_long (name ++ index_text i) ≡ false
indexed-short name i s = is_long-short name (index_text i) s.all (rw (append-nil (index_text i)) at (index-stops i [] refl)) s.short

pub schematic-short : (name : List ℕ) (i : ℕ) → IsSpelled name → long_identifier Schem (63 ∷ (name ++ index_text i)) ≡ None
schematic-short name i s =
    let first : first_identifier Schem (63 ∷ (name ++ index_text i)) ≡ name ++ index_text i = rw (spelled-head name (index_text i) s) refl in
    long-none Schem (63 ∷ (name ++ index_text i)) (rw first (indexed-short name i s)) refl

pub typ_schematic-short : (name : List ℕ) (i : ℕ) → IsSpelled name → long_identifier Schem (63 ∷ 39 ∷ (name ++ index_text i)) ≡ None
typ_schematic-short name i s = long-none Schem (63 ∷ 39 ∷ (name ++ index_text i)) (indexed-short name i s) refl
