-- A set of numbers, as bits.
use Rattle.std.specs.Prelude.{◌≡◌, ◌/◌, ◌%◌, ℕ, List, get_or}
use Rattle.std.specs.Int.{bit_at}

-- The set holds the number: of these words of 64 bits, one after the other and the lowest bit first, the bit at the place is 1.
pub record Holds (words : List ℕ) (place : ℕ) : Type 0 where
  pub bit : bit_at (get_or words (place / 64) 0) (place % 64) ≡ 1
