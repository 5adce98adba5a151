-- The powers of two that sum to a number.
use Rattle.std.proofs.Common.{◌≡◌, ℕ, zero, suc, ◌+◌, ◌-◌, ◌≤◌, ◌<◌, ◌^◌, List, [], ◌∷◌, map, length, length-append, get_or, refl, sym, ap, ◌∙◌, arith, inl, inr, true, false, nat_le}
use Rattle.std.proofs.lemmas.Nat.{pow_pos}
use Rattle.std.proofs.lemmas.Bool.{cases_lt}
use Rattle.std.proofs.lemmas.Bool.Decides.{nat_tests}
use Rattle.std.proofs.Math.Pow.{pow_mono}
use Rattle.pure_shared_maps.specs.Pairs.{joined}
use Rattle.pure_shared_maps.specs.Powers.{Descends, powers_below, powers_of, total}

-- The greater of two powers is at least twice the lesser.
pub twice : (e f : ℕ) → e < f → 2 ^ e + 2 ^ e ≤ 2 ^ f
twice e f less = let step : 2 ^ suc e ≤ 2 ^ f = pow_mono less in let double : 2 ^ suc e ≡ 2 ^ e + 2 ^ e = omega arith in omega (arith, step, double)

-- Powers of two below a power sum to less.
total_below : (k : ℕ) (ns : List ℕ) → Descends k ns → total ns < 2 ^ k
total_below k [] h = pow_pos k
total_below k (n ∷ ns) h = let most : 2 ^ h.0 + 2 ^ h.0 ≤ 2 ^ k = twice h.0 k h.1 in let n_is : n ≡ 2 ^ h.0 = h.2 in omega (arith, most, n_is, total_below h.0 ns h.3)

above : (k n : ℕ) → n < 2 ^ k → powers_below (suc k) n ≡ powers_below k n
unfolding powers_below
above k n less = let no : nat_le (2 ^ k) n ≡ false = grind (arith, nat_tests, less) in rw no refl

with_power : (k n : ℕ) → powers_below (suc k) (2 ^ k + n) ≡ 2 ^ k ∷ powers_below k n
unfolding powers_below
with_power k n =
    let yes : nat_le (2 ^ k) (2 ^ k + n) ≡ true = grind (arith, nat_tests) in
    let left : 2 ^ k + n - 2 ^ k ≡ n = omega arith in
    rw (yes, left) refl

none_below : (n : ℕ) → powers_below zero n ≡ []
unfolding powers_below
none_below n = refl

-- A number is in one way a sum of powers of two, the greatest first.
pub one_way : (k : ℕ) (ns : List ℕ) → Descends k ns → powers_below k (total ns) ≡ ns
one_way zero [] h = none_below 0
one_way zero (n ∷ ns) h = let less = h.1 in absurd (omega (arith, less))
one_way (suc k) [] h = above k 0 (pow_pos k) ∙ one_way k [] tt
one_way (suc k) (n ∷ ns) h = elim (cases_lt h.0 k) [
  | inl less ↦ (let d : Descends k (n ∷ ns) = (h.0, less, h.2, h.3) in above k (n + total ns) (total_below k (n ∷ ns) d) ∙ one_way k (n ∷ ns) d)
  | inr least ↦ (let same : h.0 ≡ k = (let l = h.1 in omega (arith, least, l)) in let n_is : n ≡ 2 ^ k = h.2 ∙ ap (λ e. 2 ^ e) same in
      rw n_is (with_power k (total ns) ∙ ap (λ ms. 2 ^ k ∷ ms) (one_way k ns (rw same at h.3))))
]

pub are_powers : (ns : List ℕ) → Descends 32 ns → powers_of (total ns) ≡ ns
unfolding powers_of
are_powers ns h = one_way 32 ns h

fewer : (k : ℕ) (ns : List ℕ) → Descends k ns → length ns ≤ k
fewer k [] h = omega arith
fewer k (n ∷ ns) h = let l = h.1 in omega (arith, fewer h.0 ns h.3, l)

pub at_most_32 : (ns : List ℕ) → Descends 32 ns → length ns ≤ 32
at_most_32 ns h = fewer 32 ns h

pub few_powers : (k : ℕ) (ns : List ℕ) → Descends k ns → 2 ^ length ns ≤ total ns + 1
few_powers k [] h = omega arith
few_powers k (n ∷ ns) h =
    let most : 2 ^ length ns ≤ 2 ^ h.0 = pow_mono (fewer h.0 ns h.3) in
    let n_is : n ≡ 2 ^ h.0 = h.2 in
    let double : 2 ^ suc (length ns) ≡ 2 ^ length ns + 2 ^ length ns = omega arith in
    omega (arith, most, n_is, double, few_powers h.0 ns h.3)

-- The runs' lengths sum to the count of pairs.
pub total-joined : {A : Type 0} (rs : List (List A)) → total (map length rs) ≡ length (joined rs)
total-joined [] = refl
total-joined (r ∷ rs) = ap (λ n. length r + n) (total-joined rs) ∙ sym (length-append r (joined rs))

item_within : (ns : List ℕ) (i : ℕ) → get_or ns i 0 ≤ total ns
item_within [] zero = omega arith
item_within [] (suc i) = omega arith
item_within (n ∷ ns) zero = omega arith
item_within (n ∷ ns) (suc i) = omega (arith, item_within ns i)

pub item_fits : (ns : List ℕ) (i : ℕ) → Descends 32 ns → get_or ns i 0 < 2 ^ 32
item_fits ns i h = let t = total_below 32 ns h in let w = item_within ns i in omega (arith, t, w)

descends_more : (k : ℕ) (ns : List ℕ) → Descends k ns → Descends (suc k) ns
descends_more k [] h = tt
descends_more k (n ∷ ns) h = (h.0, (let l = h.1 in omega (arith, l)), h.2, h.3)

powers_fit : (k n : ℕ) → n < 2 ^ k → Descends k (powers_below k n) × (total (powers_below k n) ≡ n)
powers_fit zero n less = rw (none_below n) (tt, omega arith)
powers_fit (suc k) n less = elim (cases_lt n (2 ^ k)) [
  | inl below ↦ (let w = powers_fit k n below in rw (above k n below) (descends_more k (powers_below k n) w.0, w.1))
  | inr least ↦ (let rest : n - 2 ^ k < 2 ^ k = (let double : 2 ^ suc k ≡ 2 ^ k + 2 ^ k = omega arith in omega (arith, less, double, least)) in
      let w = powers_fit k (n - 2 ^ k) rest in
      let sum : total (powers_below k (n - 2 ^ k)) ≡ n - 2 ^ k = w.1 in
      let split : n ≡ 2 ^ k + (n - 2 ^ k) = omega (arith, least) in
      let is : powers_below (suc k) n ≡ 2 ^ k ∷ powers_below k (n - 2 ^ k) = ap (powers_below (suc k)) split ∙ with_power k (n - 2 ^ k) in
      rw is ((k, omega arith, refl, w.0), omega (arith, sum, split)))
]

pub powers_are : (n : ℕ) → n < 2 ^ 32 → Descends 32 (powers_of n) × (total (powers_of n) ≡ n)
unfolding powers_of
powers_are n less = powers_fit 32 n less
