-- Which bound variables can be renamed: sums of places are numbers of the program.
use Rattle.std.specs.Prelude.{ℕ, ◌+◌, ◌<◌, List}
use Rattle.pure_text.specs.Lists.{Each}

-- So many is a number of the program, and each of these bound variables can be raised by it.
pub record HaveRoom (by : ℕ) (places : List ℕ) : Type 0 where
  pub small : by < 4294967296
  pub each : Each (λ w. w + by < 4294967296) places
