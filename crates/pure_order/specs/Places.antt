-- A set of places, as bits, with the range in which they are.
use Rattle.std.specs.Prelude.{◌≡◌, ◌<◌, ◌≤◌, ℕ, List, length}
use Rattle.pure_order_tables.specs.Rows.{Holds}

-- The set has 128 words, and each place that it holds is at the start or behind it, and before the end.
pub record IsPlaces (words : List ℕ) (from to : ℕ) : Type 0 where
  pub count : length words ≡ 128
  pub start : (place : ℕ) → Holds words place → from ≤ place
  pub end : (place : ℕ) → Holds words place → place < to
