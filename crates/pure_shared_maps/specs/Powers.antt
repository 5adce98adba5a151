-- Numbers as sums of powers of two.
use Rattle.std.specs.Prelude.{◌≡◌, ◌<◌, ℕ, zero, suc, ◌+◌, ◌-◌, ◌^◌, List, [], ◌∷◌, if◌then◌else◌, nat_le}

-- the powers of two that sum to n, the greatest first, for an n below 2 ^ k
unfoldable pub powers_below : ℕ → ℕ → List ℕ
powers_below zero n = []
powers_below (suc k) n = if nat_le (2 ^ k) n then 2 ^ k ∷ powers_below k (n - 2 ^ k) else powers_below k n

-- the powers of two that sum to n, the greatest first, for an n of 32 bits
unfoldable pub powers_of : ℕ → List ℕ
unfolding powers_below
powers_of n = powers_below 32 n

-- The numbers are powers of two below 2 ^ k, each greater than those after it.
abbrev pub Descends : ℕ → List ℕ → Type 0
Descends k [] = Unit {0}
Descends k (n ∷ ns) = (e : ℕ) × (e < k) × (n ≡ 2 ^ e) × Descends e ns

-- The number is a power of two.
abbrev pub IsPower : ℕ → Type 0
IsPower n = (e : ℕ) × (n ≡ 2 ^ e)

-- the sum of the numbers
abbrev pub total : List ℕ → ℕ
total [] = 0
total (n ∷ ns) = n + total ns

-- Each number of 32 bits is the sum of its powers of two, each of which is greater than those after it.
abbrev pub ArePowers : Type 0
ArePowers = (n : ℕ) → n < 2 ^ 32 → Descends 32 (powers_of n) × (total (powers_of n) ≡ n)
