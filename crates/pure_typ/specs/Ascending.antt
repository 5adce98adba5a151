-- The places of a list's keys in the ascending order of the keys.
use Rattle.std.specs.Prelude.{◌≡◌, ◌<◌, ◌≤◌, ℕ, List, length, get_or}
use Rattle.std.specs.declared.cmp.Ordering.{Ordering}
use Rattle.std.specs.declared.cmp.Ordering.TheVariants.{Less}

-- the key at the i-th of the places; the default is read where there is none
abbrev pub key_at : {K : Type 0} → (default : K) → (keys : List K) → (places : List ℕ) → ℕ → K
key_at default keys places i = get_or keys (get_or places i 0) default

-- The places are those of the keys, each once, and the keys ascend strictly from one to the next.
pub record AreAscending {K : Type 0} (compare : K → K → Ordering) (default : K) (keys : List K) (places : List ℕ) : Type 0 where
  pub inside : (i : ℕ) → i < length places → get_or places i 0 < length keys
  pub all : (n : ℕ) → n < length keys → (i : ℕ) × (i < length places) × (get_or places i 0 ≡ n)
  pub ascend : (i j : ℕ) → i < j → j < length places → compare (key_at default keys places i) (key_at default keys places j) ≡ Less

-- Below the first bound the keys are less than the sought one, and from the second bound on they aren't. Where the bounds meet, the sought key stands there or would stand there.
pub record IsBetween {K : Type 0} (compare : K → K → Ordering) (default : K) (keys : List K) (places : List ℕ) (sought : K) (low high : ℕ) : Type 0 where
  pub ordered : low ≤ high
  pub inside : high ≤ length places
  pub below : (i : ℕ) → i < low → compare (key_at default keys places i) sought ≡ Less
  pub rest : (i : ℕ) → high ≤ i → i < length places → ¬ (compare (key_at default keys places i) sought ≡ Less)
