-- Rows of bits.
use Rattle.std.proofs.Common.{◌≡◌, ℕ, ◌+◌, ◌*◌, ◌<◌, ◌≤◌, ◌/◌, ◌%◌, ◌^◌, ◌⊎◌, ◌↔◌, inl, inr, List, [], ◌∷◌, length, get_or, set, zero, suc, refl, sym, ap, ◌∙◌, arith, bit_and, bit_or, w64, max, min}
use Rattle.std.proofs.Math.ListN.{replicate}
use Rattle.std.specs.Int.{bit_at}
use Rattle.std.proofs.lemmas.Nat.Bits.{bit_at-zero, bit_at-lt, bit_at_and, bit_at_or, bit_at_lowest, bit_at-suc, bit_at_above, bit_at_set_same, bit_at_set_other, same_from_bits}
use Rattle.std.proofs.lemmas.List.{get_or-set_other, length-set}
use Rattle.std.proofs.lemmas.Grind.{get_or-set_at}
use Rattle.std.proofs.lemmas.Bool.{cases_lt}
use Rattle.std.proofs.lemmas.Bool.Decides.{eqb_tells}
use Rattle.pure_order_tables.specs.Rows.{Holds}

zero_read : (n i : ℕ) → ◌≡◌ {A = ℕ} (get_or (replicate n 0) i 0) 0
zero_read zero i = refl
zero_read (suc n) zero = refl
zero_read (suc n) (suc i) = zero_read n i

pub none_held : (n place : ℕ) → ¬ Holds (replicate n 0) place
none_held n place h =
    let e = zero_read n (place / 64) in
    let z = bit_at-zero (place % 64) in
    let b = h.bit in
    let same : bit_at (get_or (replicate n 0) (place / 64) 0) (place % 64) ≡ 0 = rw e z in
    cc

read_outside : (words : List ℕ) (i : ℕ) → length words ≤ i → ◌≡◌ {A = ℕ} (get_or words i 0) 0
read_outside [] i h = refl
read_outside (w ∷ ws) zero h = absurd (omega arith)
read_outside (w ∷ ws) (suc i) h = read_outside ws i (omega arith)

-- What is held has a word.
pub held_within : (words : List ℕ) (place : ℕ) → Holds words place → place / 64 < length words
held_within words place h = elim (inside (place / 64) (length words)) [
  | inl within ↦ within
  | inr outside ↦
      let e = read_outside words (place / 64) outside in
      let z = bit_at-zero (place % 64) in
      let b = h.bit in
      let same : bit_at (get_or words (place / 64) 0) (place % 64) ≡ 0 = rw e z in
      absurd cc
]
  where
    inside : (m n : ℕ) → (m < n) ⊎ (n ≤ m)
    inside m n = grind arith

-- the words once the bit of the place is set
abbrev pub with_bit : List ℕ → ℕ → List ℕ
with_bit words place = set words (place / 64) (bit_or (get_or words (place / 64) 0) (1 * 2 ^ (place % 64) % 18446744073709551616))

pub held_after : (words : List ℕ) (place : ℕ) → place / 64 < length words → (other : ℕ) → Holds (with_bit words place) other ↔ ((other ≡ place) ⊎ Holds words other)
held_after words place within other = elim (eqb_tells (other / 64) (place / 64)) [
  | inl word ↦
      let read = get_or-set_at words (place / 64) (other / 64) (bit_or (get_or words (place / 64) 0) (1 * 2 ^ (place % 64) % 18446744073709551616)) 0 word.1 within in
      elim (eqb_tells (other % 64) (place % 64)) [
        | inl bit ↦
            let same : other ≡ place = omega arith in
            (λ h. inl same, λ h. record { bit = rw (read, bit.1) (bit_at_set_same w64 (get_or words (place / 64) 0) (place % 64) (omega arith)) })
        | inr bit ↦
            let kept = bit_at_set_other w64 (get_or words (place / 64) 0) (place % 64) (omega arith) (other % 64) bit.1 in (
              λ h. inr (record { bit = rw (word.1, ← kept, ← read) h.bit }),
              λ h. elim h [ inl e ↦ absurd (bit.1 (ap (λ p. p % 64) e)) | inr k ↦ record { bit = rw (read, kept, ← word.1) k.bit } ],
            )
      ]
  | inr word ↦
      let read = get_or-set_other words (place / 64) (other / 64) (bit_or (get_or words (place / 64) 0) (1 * 2 ^ (place % 64) % 18446744073709551616)) 0 word.1 in (
        λ h. inr (record { bit = rw (← read) h.bit }),
        λ h. elim h [ inl e ↦ absurd (word.1 (ap (λ p. p / 64) e)) | inr k ↦ record { bit = rw read k.bit } ],
      )
]

-- A bit of two numbers joined is 1 where one of theirs is.
or_bit : (a b i : ℕ) → (bit_at (bit_or a b) i ≡ 1) ↔ ((bit_at a i ≡ 1) ⊎ (bit_at b i ≡ 1))
or_bit a b i = by (bit_at a i) (bit_at b i) (bit_at (bit_or a b) i) (bit_at-lt a i) (bit_at-lt b i) (bit_at_or a b i)
  where
    by : (x y z : ℕ) → x < 2 → y < 2 → z ≡ max x y → (z ≡ 1) ↔ ((x ≡ 1) ⊎ (y ≡ 1))
    by x y z p q e = (λ h. grind arith, λ h. elim h [ inl k ↦ omega arith | inr k ↦ omega arith ])

-- The row so far has what the words before i of the other hold.
pub record AreJoined (old other now : List ℕ) (i : ℕ) : Type 0 where
  pub count : length now ≡ length old
  pub rest : (j : ℕ) → i ≤ j → get_or now j 0 ≡ get_or old j 0
  pub held : (place : ℕ) → place / 64 < i → Holds now place ↔ (Holds old place ⊎ Holds other place)

pub joined_turn : (old other now : List ℕ) (i word : ℕ) → i < length now → word ≡ get_or other i 0 → AreJoined old other now i → AreJoined old other (set now i (bit_or (get_or now i 0) word)) (i + 1)
joined_turn old other now i word within read s = record {
  count = rw length-set s.count;
  rest = λ j h. get_or-set_other now i j (bit_or (get_or now i 0) word) 0 (λ (e : j ≡ i). omega arith) ∙ s.rest j (omega arith);
  held = λ place h. at place h;
}
  where
    at : (place : ℕ) → place / 64 < i + 1 → Holds (set now i (bit_or (get_or now i 0) word)) place ↔ (Holds old place ⊎ Holds other place)
    at place h = elim (eqb_tells (place / 64) i) [
      | inl here ↦
          let set_here : get_or (set now i (bit_or (get_or now i 0) word)) (place / 64) 0 ≡ bit_or (get_or now i 0) word = get_or-set_at now i (place / 64) (bit_or (get_or now i 0) word) 0 here.1 within in
          let same : get_or now i 0 ≡ get_or old (place / 64) 0 = s.rest i (omega arith) ∙ ap (λ j. get_or old j 0) (sym here.1) in
          let theirs : word ≡ get_or other (place / 64) 0 = read ∙ ap (λ j. get_or other j 0) (sym here.1) in
          let bits = or_bit (get_or old (place / 64) 0) (get_or other (place / 64) 0) (place % 64) in
          let joined : get_or (set now i (bit_or (get_or now i 0) word)) (place / 64) 0 ≡ bit_or (get_or old (place / 64) 0) (get_or other (place / 64) 0) = rw (set_here, same, theirs) refl in (
            λ h. elim (bits.0 (rw (← joined) h.bit)) [ inl k ↦ inl (record { bit = k }) | inr k ↦ inr (record { bit = k }) ],
            λ h. record { bit = rw joined (bits.1 (elim h [ inl k ↦ inl k.bit | inr k ↦ inr k.bit ])) },
          )
      | inr there ↦
          let kept = get_or-set_other now i (place / 64) (bit_or (get_or now i 0) word) 0 there.1 in
          let before = s.held place (omega (arith, there.1)) in
          (λ h. before.0 (record { bit = rw (← kept) h.bit }), λ h. record { bit = rw kept (before.1 h).bit })
    ]

-- numbers in two rows

pub no_common_bit : (a b i : ℕ) → bit_and a b ≡ 0 → bit_at a i ≡ 1 → bit_at b i ≡ 1 → ⊥
no_common_bit a b i none p q =
    let m : bit_at (bit_and a b) i ≡ min (bit_at a i) (bit_at b i) = bit_at_and a b i in
    let z : bit_at (bit_and a b) i ≡ 0 = rw none (bit_at-zero i) in
    omega (arith, m, z, p, q)

-- A number other than 0 has a bit.
some_bit : (most n : ℕ) → n ≤ most → ¬ (n ≡ 0) → (i : ℕ) × (bit_at n i ≡ 1)
some_bit zero n within some = absurd (some (omega arith))
some_bit (suc most) n within some = elim (eqb_tells (n % 2) 1) [
  | inl odd ↦ (0, bit_at_lowest n ∙ odd.1)
  | inr even ↦ (let w = some_bit most (n / 2) (half most n within some) (halved n some even.1) in (suc w.0, bit_at-suc n w.0 ∙ w.1))
]
  where
    half : (most n : ℕ) → n ≤ suc most → ¬ (n ≡ 0) → n / 2 ≤ most
    half most n within some = grind arith

    halved : (n : ℕ) → ¬ (n ≡ 0) → ¬ (n % 2 ≡ 1) → ¬ (n / 2 ≡ 0)
    halved n some even = grind arith

common_bit : (a b : ℕ) → a < 18446744073709551616 → ¬ (bit_and a b ≡ 0) → (i : ℕ) × (i < 64) × (bit_at a i ≡ 1) × (bit_at b i ≡ 1)
common_bit a b fits some =
    let w = some_bit (bit_and a b) (bit_and a b) (omega arith) some in
    let m = bit_at_and a b w.0 in
    let p = bit_at-lt a w.0 in
    let q = bit_at-lt b w.0 in
    let first : bit_at a w.0 ≡ 1 = omega (arith, w.1, m, p, q) in
    (w.0, elim (cases_lt w.0 64) [ inl few ↦ few | inr past ↦ absurd (let z = bit_at_above a 64 w.0 fits past in omega (arith, z, first)) ], first, omega (arith, w.1, m, p, q))

pub common_place : (first second : List ℕ) (i : ℕ) → get_or first i 0 < 18446744073709551616 → ¬ (bit_and (get_or first i 0) (get_or second i 0) ≡ 0) → (place : ℕ) × Holds first place × Holds second place
common_place first second i fits some =
    let w = common_bit (get_or first i 0) (get_or second i 0) fits some in
    let word : (i * 64 + w.0) / 64 ≡ i = (let k = w.1 in omega arith) in
    let bit : (i * 64 + w.0) % 64 ≡ w.0 = (let k = w.1 in omega arith) in
    (i * 64 + w.0, record { bit = rw (word, bit) w.2 }, record { bit = rw (word, bit) w.3 })

pub apart_turn : (first second : List ℕ) (i : ℕ) → bit_and (get_or first i 0) (get_or second i 0) ≡ 0 → ((place : ℕ) → place / 64 < i → Holds first place → ¬ Holds second place) → (place : ℕ) → place / 64 < i + 1 → Holds first place → ¬ Holds second place
apart_turn first second i none before place within h k = elim (here_or_there (place / 64) i within) [
  | inl early ↦ before place early h k
  | inr here ↦ no_common_bit (get_or first i 0) (get_or second i 0) (place % 64) none (rw here at h.bit) (rw here at k.bit)
]
  where
    here_or_there : (m n : ℕ) → m < n + 1 → (m < n) ⊎ (m ≡ n)
    here_or_there m n h = grind arith

-- one row in another

-- What a word of a row has, the other row's word has.
pub word_within : (first second : List ℕ) (i : ℕ) → get_or first i 0 < 18446744073709551616 → ((place : ℕ) → Holds first place → Holds second place) → bit_and (get_or first i 0) (get_or second i 0) ≡ get_or first i 0
word_within first second i fits all = same_from_bits (bit_and (get_or first i 0) (get_or second i 0)) (get_or first i 0) (λ j. elim (cases_lt j 64) [
  | inl few ↦
      let word : (i * 64 + j) / 64 ≡ i = omega (arith, few) in
      let bit : (i * 64 + j) % 64 ≡ j = omega (arith, few) in
      let forth : bit_at (get_or first i 0) j ≡ 1 → bit_at (get_or second i 0) j ≡ 1 = λ h. rw (word, bit) at ((all (i * 64 + j) (record { bit = rw (word, bit) h })).bit) in
      bits (bit_at (get_or first i 0) j) (bit_at (get_or second i 0) j) (bit_at (bit_and (get_or first i 0) (get_or second i 0)) j) (bit_at-lt (get_or first i 0) j) (bit_at_and (get_or first i 0) (get_or second i 0) j) forth
  | inr past ↦
      let none = bit_at_above (get_or first i 0) 64 j fits past in
      omega (arith, bit_at_and (get_or first i 0) (get_or second i 0) j, none)
])
  where
    bits : (x y z : ℕ) → x < 2 → z ≡ min x y → (x ≡ 1 → y ≡ 1) → z ≡ x
    bits zero y z p e forth = omega (arith, e)
    bits (suc x) y z p e forth = let one : suc x ≡ 1 = omega (arith, p) in let other = forth one in omega (arith, e, one, other)

word_has : (a b j : ℕ) → bit_and a b ≡ a → bit_at a j ≡ 1 → bit_at b j ≡ 1
word_has a b j same one =
    let m : bit_at (bit_and a b) j ≡ min (bit_at a j) (bit_at b j) = bit_at_and a b j in
    let k : bit_at (bit_and a b) j ≡ bit_at a j = ap (λ w. bit_at w j) same in
    omega (arith, m, k, one, bit_at-lt b j)

-- Below a number whose word the other row's word has, its numbers are in the other row.
pub word_passed : (first second : List ℕ) (number : ℕ) → bit_and (get_or first (number / 64) 0) (get_or second (number / 64) 0) ≡ get_or first (number / 64) 0 → (place : ℕ) → number / 64 * 64 ≤ place → place < number → Holds first place → Holds second place
word_passed first second number same place from before h =
    let here : place / 64 ≡ number / 64 = omega (arith, from, before) in
    record { bit = rw here (word_has (get_or first (number / 64) 0) (get_or second (number / 64) 0) (place % 64) same (rw here at h.bit)) }

pub within_turn : (first second : List ℕ) (i : ℕ) → bit_and (get_or first i 0) (get_or second i 0) ≡ get_or first i 0 → ((place : ℕ) → place / 64 < i → Holds first place → Holds second place) → (place : ℕ) → place / 64 < i + 1 → Holds first place → Holds second place
within_turn first second i same before place inside h = elim (here_or_there (place / 64) i inside) [
  | inl early ↦ before place early h
  | inr here ↦ record { bit = rw here (word_has (get_or first i 0) (get_or second i 0) (place % 64) same (rw here at h.bit)) }
]
  where
    here_or_there : (m n : ℕ) → m < n + 1 → (m < n) ⊎ (m ≡ n)
    here_or_there m n h = grind arith

pub within_all : (first second : List ℕ) (i : ℕ) → length first ≤ i → ((place : ℕ) → place / 64 < i → Holds first place → Holds second place) → (place : ℕ) → Holds first place → Holds second place
within_all first second i end before place h = before place (let w = held_within first place h in omega (arith, w, end)) h

-- the words that two rows have in common
abbrev pub common : List ℕ → List ℕ → List ℕ
common (a ∷ first) (b ∷ second) = bit_and a b ∷ common first second
common _ _ = []

read_common : (first second : List ℕ) (i : ℕ) → i < length first → i < length second → bit_and (get_or first i 0) (get_or second i 0) ≡ get_or (common first second) i 0
read_common [] second i h k = absurd (omega arith)
read_common (a ∷ first) [] i h k = absurd (omega arith)
read_common (a ∷ first) (b ∷ second) zero h k = refl
read_common (a ∷ first) (b ∷ second) (suc i) h k = read_common first second i (omega arith) (omega arith)

long_common : (first second : List ℕ) (i : ℕ) → i < length (common first second) → (i < length first) × (i < length second)
long_common [] second i h = absurd (omega arith)
long_common (a ∷ first) [] i h = absurd (omega arith)
long_common (a ∷ first) (b ∷ second) zero h = (omega arith, omega arith)
long_common (a ∷ first) (b ∷ second) (suc i) h = let rest = long_common first second i (omega arith) in (omega (arith, rest.0), omega (arith, rest.1))

and_bit : (a b i : ℕ) → (bit_at (bit_and a b) i ≡ 1) ↔ ((bit_at a i ≡ 1) × (bit_at b i ≡ 1))
and_bit a b i =
    let m : bit_at (bit_and a b) i ≡ min (bit_at a i) (bit_at b i) = bit_at_and a b i in
    let p = bit_at-lt a i in
    let q = bit_at-lt b i in
    (λ h. (omega (arith, m, p, q, h), omega (arith, m, p, q, h)), λ w. (let x = w.0 in let y = w.1 in omega (arith, m, x, y)))

held_common : (first second : List ℕ) (place : ℕ) → Holds (common first second) place ↔ (Holds first place × Holds second place)
held_common first second place = (there, back)
  where
    there : Holds (common first second) place → Holds first place × Holds second place
    there h =
        let w = long_common first second (place / 64) (held_within (common first second) place h) in
        let both = (and_bit (get_or first (place / 64) 0) (get_or second (place / 64) 0) (place % 64)).0 (rw (read_common first second (place / 64) w.0 w.1) h.bit) in
        (record { bit = both.0 }, record { bit = both.1 })

    back : Holds first place × Holds second place → Holds (common first second) place
    back w = record { bit = rw (← read_common first second (place / 64) (held_within first place w.0) (held_within second place w.1)) ((and_bit (get_or first (place / 64) 0) (get_or second (place / 64) 0) (place % 64)).1 (w.0.bit, w.1.bit)) }

pub common_turn : (old first second now : List ℕ) (i : ℕ) → i < length now → i < length first → i < length second → AreJoined old (common first second) now i
    → AreJoined old (common first second) (set now i (bit_or (get_or now i 0) (bit_and (get_or first i 0) (get_or second i 0)))) (i + 1)
common_turn old first second now i within one two s = joined_turn old (common first second) now i (bit_and (get_or first i 0) (get_or second i 0)) within (read_common first second i one two) s

-- Once one of the three ends, all of it is in.
pub common_all : (old first second now : List ℕ) (i : ℕ) → min (min (length old) (length first)) (length second) ≤ i → AreJoined old (common first second) now i
    → (place : ℕ) → Holds now place ↔ (Holds old place ⊎ ((place / 64 < length old) × Holds first place × Holds second place))
common_all old first second now i end s place = elim (cases_lt (place / 64) i) [
  | inl early ↦ (
    λ h. elim ((s.held place early).0 h) [
      | inl o ↦ inl o
      | inr b ↦ (let w = (held_common first second place).0 b in inr (rw s.count at (held_within now place h), w.0, w.1))
    ],
    λ h. elim h [ inl o ↦ (s.held place early).1 (inl o) | inr w ↦ (s.held place early).1 (inr ((held_common first second place).1 (w.1, w.2))) ],
  )
  | inr past ↦
      let kept = s.rest (place / 64) past in (
        λ h. inl (record { bit = rw (← kept) h.bit }),
        λ h. elim h [
          | inl o ↦ record { bit = rw kept o.bit }
          | inr w ↦ absurd (let a = w.0 in let b = held_within first place w.1 in let c = held_within second place w.2 in omega (arith, a, b, c, end, past))
        ],
      )
]
