-- Whether something fits into a room for nodes, and how large a term becomes that is expanded.
use Rattle.std.specs.Prelude.{◌≡◌, ℕ, zero, ◌+◌, ◌<◌, ◌≤◌, max, Bool, false, Option, Some, None}
use Rattle.pure_definitions.specs.Types.Typ.{Typ, Con, none, also, typ_size, typ_depth}
use Rattle.pure_definitions.specs.Terms.Term.{max_depth}
use Rattle.pure_eta.specs.declared.fits.Room.{Room}

-- Of room for `left` nodes, a tree of this size and depth leaves so many, and is as deep as it is; nothing is left where it has more nodes or is deeper than a term within the limits.
abbrev pub Fits : (left size depth : ℕ) → Option Room → Type 0
Fits left size depth (Some room) = (room.left + size ≡ left) × (room.depth ≡ depth) × (depth ≤ max_depth)
Fits left size depth None = size ≤ left → max_depth < depth

-- how many nodes an expanded term has more than the term
abbrev pub added_size : Typ → ℕ
added_size (Con zero (also A (also B none))) = typ_size A + (3 + (added_size A + added_size B))
added_size T = 0

-- the depth of an expanded term of this depth
abbrev pub expanded_depth : Typ → ℕ → ℕ
expanded_depth (Con zero (also A (also B none))) d = 1 + max (typ_depth A) (expanded_depth B (1 + max d (expanded_depth A 1)))
expanded_depth T d = d

-- the same where only a term that isn't applied is expanded
abbrev pub added_at : (applied : Bool) → Option Typ → ℕ
added_at false (Some T) = added_size T
added_at _ _ = 0

abbrev pub depth_at : (applied : Bool) → Option Typ → ℕ → ℕ
depth_at false (Some T) d = expanded_depth T d
depth_at _ _ d = d
