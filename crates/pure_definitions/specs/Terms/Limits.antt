-- Numbers that are cut off, what fits into a room for nodes, and types within the limits.
use Rattle.std.specs.Prelude.{◌≡◌, ℕ, ◌+◌, ◌<◌, ◌≤◌, min, Option, Some, None}
use Rattle.pure_definitions.specs.Types.Typ.{Typ, typ_size, typ_depth}
use Rattle.pure_definitions.specs.Terms.Term.{max_size, max_depth}

-- the number, or the greatest that a call can answer
abbrev pub cut_off : ℕ → ℕ
cut_off n = min n 4294967295

-- In a room for `left` nodes on paths of at most `room`, a tree of this size and depth leaves so many; it leaves none where it doesn't fit.
abbrev pub Leaves : (left room size depth : ℕ) → Option ℕ → Type 0
Leaves left room size depth (Some rest) = (rest + size ≡ left) × (depth ≤ room)
Leaves left room size depth None = size ≤ left → room < depth

-- The type is within the limits: its size is at most 200,000 and its depth at most 2,000.
pub record IsWithinTyp (t : Typ) : Type 0 where
  pub size : typ_size t ≤ max_size
  pub depth : typ_depth t ≤ max_depth
