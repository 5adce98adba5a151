-- Where the nodes of a name stand.
use Rattle.std.proofs.Common.{◌≡◌, ◌≢◌, ◌↔◌, ◌⊎◌, ◌∙◌, ◌<◌, ◌≤◌, ◌+◌, ◌*◌, ◌/◌, ◌%◌, ℕ, zero, suc, List, [], ◌∷◌, ◌++◌, length, get_or, take, add-one, inl, inr, refl, sym, ap, subst, arith}
use Rattle.std.specs.Int.{bit_at}
use Rattle.std.proofs.lemmas.Bool.{cases_lt}
use Rattle.std.proofs.lemmas.Nat.{div-mul-add, div-add-mod'}
use Rattle.std.proofs.lemmas.Nat.Bits.{bit_at-zero}
use Rattle.std.proofs.lemmas.List.{get_or_past, get_or_push, get_or_default}
use Rattle.pure_text.specs.Lists.{EachTwo}
use Rattle.pure_order_tables.specs.Rows.{Holds}
use Rattle.pure_order_tables.proofs.RowLaws.{held_within}
use Rattle.pure_promise_fates.specs.Reach.{IsAt}
use Rattle.pure_promise_fates.proofs.PlaceLaws.{at-once, at-read, at-within}
use Rattle.pure_citations.specs.Cited.{IsBefore}
use Rattle.pure_citations.specs.Index.{IsLast, AreBefore, AreLast, IsIndex, IsNodeAt}
use Rattle.pure_citations.specs.Reached.{Gains}
use Rattle.pure_citations.proofs.NamedLaws.{unchanged}

-- with one more element, a zero, a list reads the same
pub read-longer : (xs : List ℕ) (k : ℕ) → get_or (xs ++ 0 ∷ []) k 0 ≡ get_or xs k 0
read-longer [] zero = refl
read-longer [] (suc k) = refl
read-longer (x ∷ xs) zero = refl
read-longer (x ∷ xs) (suc k) = read-longer xs k

-- before a last element a list reads as it was
read-before : (xs : List ℕ) (x k : ℕ) → k < length xs → get_or (xs ++ x ∷ []) k 0 ≡ get_or xs k 0
read-before [] x k h = absurd (omega (arith, h))
read-before (y ∷ xs) x zero h = refl
read-before (y ∷ xs) x (suc k) h = read-before xs x k (omega (arith, h))

less-or-same : (p n : ℕ) → p < suc n → (p < n) ⊎ (p ≡ n)
less-or-same p n h = elim (cases_lt p n) [ inl less ↦ inl less | inr most ↦ inr (omega (arith, most, h)) ]

-- One place more: of its code it is the last, and of others nothing changes.
pub last-here : (codes : List ℕ) (place code : ℕ) → IsAt codes place code → IsLast codes (suc place) code (suc place)
last-here codes place code at = (omega arith, at, λ q more less. absurd (omega (arith, more, less)))

pub last-other : (codes : List ℕ) (place code other last : ℕ) → IsAt codes place code → other ≢ code → IsLast codes place other last → IsLast codes (suc place) other last
last-other codes place code other zero at apart h = λ q less is. elim (less-or-same q place less) [
  | inl before ↦ h q before is
  | inr same ↦ apart (at-once codes place other code (subst (λ k. IsAt codes k other) same is) at)
]
last-other codes place code other (suc last) at apart h = (
  omega (arith, h.0),
  h.1,
  λ q more less is. elim (less-or-same q place less) [
    | inl before ↦ h.2 q more before is
    | inr same ↦ apart (at-once codes place other code (subst (λ k. IsAt codes k other) same is) at)
  ],
)

-- Before the first place there is none.
pub lasts-none : (codes : List ℕ) → AreLast codes [] 0
lasts-none codes code = λ q less is. absurd (omega (arith, less))

pub befores-none : (codes before : List ℕ) → AreBefore codes before 0
befores-none codes before q code less is = absurd (omega (arith, less))

decide : (a b : ℕ) → (a ≡ b) ⊎ (a ≢ b)
decide a b = elim (cases_lt a b) [
  | inl less ↦ inr (λ e. absurd (omega (arith, less, e)))
  | inr most ↦ elim (cases_lt b a) [ inl more ↦ inr (λ e. absurd (omega (arith, more, e))) | inr least ↦ inl (omega (arith, most, least)) ]
]

-- The lists with one place more.
lasts-next : (codes last next : List ℕ) (place code : ℕ) → IsAt codes place code → AreLast codes last place → get_or next code 0 ≡ suc place → ((k : ℕ) → k ≢ code → get_or next k 0 ≡ get_or last k 0) → AreLast codes next (suc place)
lasts-next codes last next place code at h here others other = elim (decide other code) [
  | inl same ↦ subst (λ b. IsLast codes (suc place) other b) (sym (ap (λ k. get_or next k 0) same ∙ here)) (subst (λ k. IsLast codes (suc place) k (suc place)) (sym same) (last-here codes place code at))
  | inr apart ↦ subst (λ b. IsLast codes (suc place) other b) (sym (others other apart)) (last-other codes place code other (get_or last other 0) at apart (h other))
]

befores-next : (codes before : List ℕ) (place code b : ℕ) → IsAt codes place code → length before ≡ place → AreBefore codes before place → IsLast codes place code b → AreBefore codes (before ++ b ∷ []) (suc place)
befores-next codes before place code b at long h last q other less is = elim (less-or-same q place less) [
  | inl early ↦ subst (λ x. IsLast codes q other x) (sym (read-before before b q (omega (arith, early, long)))) (h q other early is)
  | inr same ↦
      (let one : other ≡ code = at-once codes place other code (subst (λ k. IsAt codes k other) same is) at in
      let read : get_or (before ++ b ∷ []) q 0 ≡ b = get_or_push before b 0 q (long ∙ sym same) in
      subst (λ x. IsLast codes q other x) (sym read) (subst (λ p. IsLast codes p other b) (sym same) (subst (λ k. IsLast codes place k b) (sym one) last)))
]

-- The same where one place more is written as a sum.
pub lasts-more : (codes last next : List ℕ) (place code : ℕ) → place < length codes → code ≡ get_or codes place 0 → AreLast codes last place → get_or next code 0 ≡ place + 1 → ((k : ℕ) → k ≢ code → get_or next k 0 ≡ get_or last k 0) → AreLast codes next (place + 1)
lasts-more codes last next place code within is h here others =
    subst (AreLast codes next) (sym (add-one place)) (lasts-next codes last next place code (subst (IsAt codes place) (sym is) (at-read codes place 0 within)) h (here ∙ add-one place) others)

pub befores-more : (codes before last : List ℕ) (place code b : ℕ) → place < length codes → code ≡ get_or codes place 0 → length before ≡ place → AreBefore codes before place → AreLast codes last place → b ≡ get_or last code 0 → AreBefore codes (before ++ b ∷ []) (place + 1)
befores-more codes before last place code b within is long h lasts read =
    subst (AreBefore codes (before ++ b ∷ [])) (sym (add-one place))
    (befores-next codes before place code b (subst (IsAt codes place) (sym is) (at-read codes place 0 within)) long h (subst (IsLast codes place code) (sym read) (lasts code)))

-- At the end of the walk all places are taken in.
last-end : (codes : List ℕ) (bound code last : ℕ) → length codes ≤ bound → IsLast codes bound code last → IsLast codes (length codes) code last
last-end codes bound code zero past h = λ q less. h q (omega (arith, less, past))
last-end codes bound code (suc last) past h = (at-within codes last code h.1, h.1, λ q more less. h.2 q more (omega (arith, less, past)))

pub index-end : (codes last before : List ℕ) (place : ℕ) → length codes ≤ place → AreLast codes last place → AreBefore codes before place → IsIndex codes last before
index-end codes last before place past lasts befores = record {
  lasts = λ code. last-end codes place code (get_or last code 0) past (lasts code);
  befores = λ q code less. befores q code (omega (arith, less, past));
}

-- Places before a bound, from the last one on.
pub from-none : (codes : List ℕ) (bound code last : ℕ) → IsLast codes bound code last → last ≡ 0 → (old : List ℕ) → Gains (λ q. (q < bound) × IsAt codes q code) old old
from-none codes bound code last h none old q = unchanged ((q < bound) × IsAt codes q code) (Holds old q) (λ w. (subst (IsLast codes bound code) none h) q w.0 w.1)

pub last-within : (codes : List ℕ) (bound code last place : ℕ) → IsLast codes bound code last → last ≡ suc place → (place < bound) × IsAt codes place code
last-within codes bound code last place h is = let k : IsLast codes bound code (suc place) = subst (IsLast codes bound code) is h in (k.0, k.1)

pub from-last : (codes : List ℕ) (bound code last place : ℕ) → IsLast codes bound code last → last ≡ suc place → (old more new : List ℕ) → ((q : ℕ) → Holds more q ↔ ((q ≡ place) ⊎ Holds old q)) → Gains (λ q. (q < place) × IsAt codes q code) more new
    → Gains (λ q. (q < bound) × IsAt codes q code) old new
from-last codes bound code last place h is old more new put rest q = (
  λ held. elim ((rest q).0 held) [
    | inl w ↦ inl (omega (arith, w.0, k.0), w.1)
    | inr here ↦ elim ((put q).0 here) [ inl same ↦ inl (omega (arith, same, k.0), subst (λ p. IsAt codes p code) (sym same) k.1) | inr o ↦ inr o ]
  ],
  λ w. elim w [
    | inl at ↦ elim (cases_lt q place) [
      | inl less ↦ (rest q).1 (inl (less, at.1))
      | inr most ↦ elim (cases_lt place q) [
        | inl more ↦ absurd (k.2 q more at.0 at.1)
        | inr least ↦ (rest q).1 (inr ((put q).1 (inl (omega (arith, most, least)))))
      ]
    ]
    | inr o ↦ (rest q).1 (inr ((put q).1 (inr o)))
  ],
)
  where
    k : IsLast codes bound code (suc place)
    k = subst (IsLast codes bound code) is h

-- All places are before the end.
pub from-end : (codes : List ℕ) (number : ℕ) (named old new : List ℕ) → Holds named number → Gains (λ q. (q < length codes) × IsAt codes q (suc number)) old new → Gains (λ q. Holds named number × IsNodeAt codes number q) old new
from-end codes number named old new held h q = (
  λ w. elim ((h q).0 w) [ inl at ↦ inl (held, at.1) | inr o ↦ inr o ],
  λ w. elim w [ inl at ↦ (h q).1 (inl (at-within codes q (suc number) at.1, at.1)) | inr o ↦ (h q).1 (inr o) ],
)

pub number-not : (codes : List ℕ) (number : ℕ) (named old : List ℕ) → (Holds named number → ⊥) → Gains (λ q. Holds named number × IsNodeAt codes number q) old old
number-not codes number named old none q = unchanged (Holds named number × IsNodeAt codes number q) (Holds old q) (λ w. none w.0)

-- A word of no bits holds none of its numbers.
pub word-clear : (words : List ℕ) (word b : ℕ) → get_or words word 0 ≡ 0 → b < 64 → Holds words (word * 64 + b) → ⊥
word-clear words word b none less h =
    let place : (word * 64 + b) / 64 ≡ word = div-mul-add word 64 b less in
    let read : get_or words ((word * 64 + b) / 64) 0 ≡ 0 = ap (λ p. get_or words p 0) place ∙ none in
    let said : bit_at 0 ((word * 64 + b) % 64) ≡ 1 = subst (λ w. bit_at w ((word * 64 + b) % 64) ≡ 1) read h.bit in
    let zero_is = bit_at-zero ((word * 64 + b) % 64) in
    absurd (omega (arith, said, zero_is))

-- what is put in of the numbers of a word
abbrev pub InWord : (codes named : List ℕ) → (word q b : ℕ) → Type 0
InWord codes named word q b = Holds named (word * 64 + b) × IsNodeAt codes (word * 64 + b) q

pub word-none : (codes named old : List ℕ) (word : ℕ) → get_or named word 0 ≡ 0 → Gains (λ q. IsBefore (InWord codes named word q) 64) old old
word-none codes named old word none q = unchanged (IsBefore (InWord codes named word q) 64) (Holds old q) (λ w. word-clear named word w.0 none w.1 w.2.0)

-- After 64 bits a word is done.
pub word-end : (codes named : List ℕ) (word bit : ℕ) → bit ≤ 64 → 64 ≤ bit → (old new : List ℕ) → Gains (λ q. IsBefore (InWord codes named word q) bit) old new → Gains (λ q. IsBefore (InWord codes named word q) 64) old new
word-end codes named word bit most least old new h = let same : bit ≡ 64 = omega (arith, most, least) in subst (λ b. Gains (λ q. IsBefore (InWord codes named word q) b) old new) same h

-- The words hold all numbers that are held.
pub words-end : (codes named old new : List ℕ) (count : ℕ) → length named ≤ count → ((q : ℕ) → Holds new q ↔ (IsBefore (λ w. IsBefore (InWord codes named w q) 64) count ⊎ Holds old q))
    → Gains (λ q. (number : ℕ) × Holds named number × IsNodeAt codes number q) old new
words-end codes named old new count past h q = (
  λ held. elim ((h q).0 held) [ inl w ↦ inl (w.0 * 64 + w.2.0, w.2.2.0, w.2.2.1) | inr o ↦ inr o ],
  λ w. elim w [
    | inl n ↦
        (let whole : n.0 / 64 * 64 + n.0 % 64 ≡ n.0 = div-add-mod' n.0 64 in
        let inside : n.0 / 64 < length named = held_within named n.0 n.1 in
        let bit : n.0 % 64 < 64 = omega arith in
        (h q).1 (inl (n.0 / 64, omega (arith, inside, past), (n.0 % 64, bit, (subst (Holds named) (sym whole) n.1, subst (λ k. IsNodeAt codes k q) (sym whole) n.2)))))
    | inr o ↦ (h q).1 (inr o)
  ],
)
