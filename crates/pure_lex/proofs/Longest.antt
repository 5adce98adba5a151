-- Which front of a text is the longest of its kind.
use Rattle.std.proofs.Common.{◌≡◌, ℕ, ◌+◌, ◌<◌, ◌≤◌, Bool, true, false, ◌&&◌, ◌==◌, List, [], ◌∷◌, ◌++◌, length, refl, sym, ap, ◌∙◌, inl, inr, arith, append_assoc, length-append}
use Rattle.std.specs.Prelude.{nat_le}
use Rattle.std.specs.List.{list_all}
use Rattle.std.proofs.lemmas.Bool.{and_parts, and_from, or_cases, both_ways, eq-eqb, leb-true, le-leb, lt-ltb, le-ltb}
use Rattle.std.proofs.lemmas.List.Folds.{list_all-append}
use Rattle.pure_grammar.specs.Tokens.Bytes.{is_letter, is_digit, is_name_byte, is_empty, head_is, marked, behind}
use Rattle.pure_grammar.specs.Tokens.Token.{is_number, is_long}
use Rattle.pure_grammar.proofs.Fronts.{marked-is}
use Rattle.pure_grammar.proofs.Gaps.{empty_is}
use Rattle.pure_lex.specs.Fronts.{IsLongest, is_index}

-- Bytes at the front

pub head_is-front : (test : ℕ → Bool) (a b : List ℕ) → head_is test a ≡ true → head_is test (a ++ b) ≡ true
head_is-front test [] b p = cc
head_is-front test (x ∷ a) b p = p

pub head_is-shorter : (test : ℕ → Bool) (a b : List ℕ) → head_is test (a ++ b) ≡ false → head_is test a ≡ false
head_is-shorter test [] b p = refl
head_is-shorter test (x ∷ a) b p = p

pub behind-run : (test : ℕ → Bool) (here rest : List ℕ) → list_all test here ≡ true → behind test (here ++ rest) ≡ behind test rest
behind-run test [] rest p = refl
behind-run test (b ∷ here) rest p =
    let parts = and_parts (test b) (list_all test here) p in
    rw parts.0 (behind-run test here rest parts.1)

pub behind-stop : (test : ℕ → Bool) (bs : List ℕ) → head_is test bs ≡ false → behind test bs ≡ bs
behind-stop test [] p = refl
behind-stop test (b ∷ bs) p = rw p refl

-- what stands behind a run is the rest
pub behind-is : (test : ℕ → Bool) (here rest : List ℕ) → list_all test here ≡ true → head_is test rest ≡ false → behind test (here ++ rest) ≡ rest
behind-is test here rest all stops = behind-run test here rest all ∙ behind-stop test rest stops

pub marked-from : (mark : ℕ) (test : List ℕ → Bool) (bs : List ℕ) → test bs ≡ true → marked mark test (mark ∷ bs) ≡ true
marked-from mark test bs p = and_from (mark == mark) (test bs) (eq-eqb mark mark refl) p

-- The longest front of a kind

pub longest-empty : (rest : List ℕ) → IsLongest is_empty [] rest
longest-empty rest = record { passes = refl; longest = λ more left e p. empty_is more p }

pub longest-marked : (mark : ℕ) (test : List ℕ → Bool) (here rest : List ℕ) → IsLongest test here rest → IsLongest (marked mark test) (mark ∷ here) rest
longest-marked mark test here rest l = record {
  passes = marked-from mark test here l.passes;
  longest = λ more left e p. l.longest more left e (and_parts (mark == mark) (test (here ++ more)) p).1;
}

-- a letter and name bytes, and then a text that passes the test
abbrev pub named : (List ℕ → Bool) → List ℕ → Bool
named test bs = head_is is_letter bs && test (behind is_name_byte bs)

pub named-parts : (test : List ℕ → Bool) (name tail : List ℕ) → list_all is_name_byte name ≡ true → head_is is_name_byte tail ≡ false → named test (name ++ tail) ≡ true → test tail ≡ true
named-parts test name tail all stops p =
    let parts = and_parts (head_is is_letter (name ++ tail)) (test (behind is_name_byte (name ++ tail))) p in
    rw (behind-is is_name_byte name tail all stops) at parts.1

pub longest-named : (test : List ℕ → Bool) (name tail rest : List ℕ) → head_is is_letter name ≡ true → list_all is_name_byte name ≡ true → head_is is_name_byte (tail ++ rest) ≡ false → IsLongest test tail rest → IsLongest (named test) (name ++ tail) rest
longest-named test name tail rest letter all stops l = record {
  passes =
      (let behind_name : behind is_name_byte (name ++ tail) ≡ tail = behind-is is_name_byte name tail all (head_is-shorter is_name_byte tail rest stops) in
      and_from (head_is is_letter (name ++ tail)) (test (behind is_name_byte (name ++ tail))) (head_is-front is_letter name tail letter) (rw behind_name l.passes));
  longest = λ more left e p.
      (let whole : (tail ++ more) ++ left ≡ tail ++ rest = append_assoc tail more left ∙ ap (λ x. tail ++ x) (sym e) in
      let front : head_is is_name_byte (tail ++ more) ≡ false = head_is-shorter is_name_byte (tail ++ more) left (rw whole stops) in
      let longer : named test (name ++ (tail ++ more)) ≡ true = rw (append_assoc name tail more) at p in
      l.longest more left e (named-parts test name (tail ++ more) all front longer));
}

-- Numbers

number-length : (bs : List ℕ) → is_number bs ≡ true → (1 ≤ length bs) × (length bs ≤ 9)
number-length bs p =
    let outer = and_parts (list_all is_digit bs) (nat_le 1 (length bs) && nat_le (length bs) 9) p in
    let inner = and_parts (nat_le 1 (length bs)) (nat_le (length bs) 9) outer.1 in
    (leb-true 1 (length bs) inner.0, leb-true (length bs) 9 inner.1)

number-digits : (bs : List ℕ) → is_number bs ≡ true → list_all is_digit bs ≡ true
number-digits bs p = (and_parts (list_all is_digit bs) (nat_le 1 (length bs) && nat_le (length bs) 9) p).0

pub number-head : (bs : List ℕ) → is_number bs ≡ true → head_is is_digit bs ≡ true
number-head [] p = let sizes = number-length [] p in absurd (omega (arith, sizes.0))
number-head (b ∷ bs) p = (and_parts (is_digit b) (list_all is_digit bs) (number-digits (b ∷ bs) p)).0

pub number : (bs : List ℕ) → list_all is_digit bs ≡ true → 1 ≤ length bs → length bs ≤ 9 → is_number bs ≡ true
number bs all some few =
    and_from (list_all is_digit bs) (nat_le 1 (length bs) && nat_le (length bs) 9) all
    (and_from (nat_le 1 (length bs)) (nat_le (length bs) 9) (le-leb 1 (length bs) some) (le-leb (length bs) 9 few))

digits-more : (here rest more left : List ℕ) → (length here < 9 → head_is is_digit rest ≡ false) → rest ≡ more ++ left → is_number (here ++ more) ≡ true → more ≡ []
digits-more here rest [] left stops e p = refl
digits-more here rest (c ∷ more) left stops e p =
    let sizes = number-length (here ++ (c ∷ more)) p in
    let bound : length here + length (c ∷ more) ≤ 9 = rw (length-append here (c ∷ more)) at sizes.1 in
    let all : (list_all is_digit here && list_all is_digit (c ∷ more)) ≡ true = rw (list_all-append is_digit here (c ∷ more)) at (number-digits (here ++ (c ∷ more)) p) in
    let digit : is_digit c ≡ true = (and_parts (is_digit c) (list_all is_digit more) (and_parts (list_all is_digit here) (list_all is_digit (c ∷ more)) all).1).0 in
    let few : length here < 9 = omega arith in
    let none : head_is is_digit (c ∷ (more ++ left)) ≡ false = rw e at (stops few) in
    absurd (both_ways (is_digit c) none digit)

pub longest-number : (here rest : List ℕ) → list_all is_digit here ≡ true → 1 ≤ length here → length here ≤ 9 → (length here < 9 → head_is is_digit rest ≡ false) → IsLongest is_number here rest
longest-number here rest all some few stops = record {
  passes = number here all some few;
  longest = λ more left e p. digits-more here rest more left stops e p;
}

-- Indexes

-- no index begins here
pub longest-no_index : (rest : List ℕ) → marked 46 (head_is is_digit) rest ≡ false → IsLongest is_index [] rest
longest-no_index rest none = record {
  passes = refl;
  longest = λ more left e p. elim (or_cases (is_empty more) (marked 46 is_number more) p) [
    | inl empty ↦ empty_is more empty
    | inr index ↦ (let parts = marked-is 46 is_number more index in
        let digit : head_is is_digit (parts.rest ++ left) ≡ true = head_is-front is_digit parts.rest left (number-head parts.rest parts.passes) in
        let text : rest ≡ 46 ∷ (parts.rest ++ left) = e ∙ ap (λ m. m ++ left) parts.is in
        let some : marked 46 (head_is is_digit) rest ≡ true = rw text digit in
        absurd (both_ways _ none some))
  ];
}

pub longest-index : (digits rest : List ℕ) → IsLongest is_number digits rest → IsLongest is_index (46 ∷ digits) rest
longest-index digits rest l = record { passes = l.passes; longest = λ more left e p. l.longest more left e p }

-- Long identifiers

pub is_long-short : (name rest : List ℕ) → list_all is_name_byte name ≡ true → head_is is_name_byte rest ≡ false → length name ≤ 64 → is_long (name ++ rest) ≡ false
is_long-short name rest all stops short =
    rw (behind-is is_name_byte name rest all stops, length-append name rest)
    (le-ltb (length rest + 64) (length name + length rest) (omega arith))

pub is_long-long : (name rest : List ℕ) → list_all is_name_byte name ≡ true → head_is is_name_byte rest ≡ false → 64 < length name → is_long (name ++ rest) ≡ true
is_long-long name rest all stops long =
    rw (behind-is is_name_byte name rest all stops, length-append name rest)
    (lt-ltb (length rest + 64) (length name + length rest) (omega arith))
