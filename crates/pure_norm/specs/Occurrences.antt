-- How often and how deep a bound variable occurs in a body, and what is left of room when an argument is put there.
use Rattle.std.specs.Prelude.{◌≡◌, ◌⊎◌, ℕ, ◌+◌, ◌*◌, ◌<◌, ◌≤◌, max, nat_eq, if◌then◌else◌, Option, Some, None}
use Rattle.pure_definitions.specs.Terms.Term.{Term, Bound, Abs, App, max_depth}

-- how often bound variable n of the body occurs
abbrev pub occurrence_count : ℕ → Term → ℕ
occurrence_count n (Bound p) = if nat_eq p n then 1 else 0
occurrence_count n (Abs T b) = occurrence_count (n + 1) b
occurrence_count n (App f a) = occurrence_count n f + occurrence_count n a
occurrence_count n _ = 0

-- how many nodes are above the deepest occurrence, where so many are above the body; 0 where there is none
abbrev pub deepest_occurrence : (n above : ℕ) → Term → ℕ
deepest_occurrence n above (Bound p) = if nat_eq p n then above else 0
deepest_occurrence n above (Abs T b) = deepest_occurrence (n + 1) (above + 1) b
deepest_occurrence n above (App f a) = max (deepest_occurrence n (above + 1) f) (deepest_occurrence n (above + 1) a)
deepest_occurrence n above _ = 0

-- An argument of this size and depth goes from its redex to so many occurrences, the deepest of them below so many nodes. Where `freed` nodes more are left of room when the redex loses its
-- application, its abstraction and the abstraction's type, so many are left in the end; none are where it becomes too large or too deep.
abbrev pub LeavesAfter : (freed count deepest size depth : ℕ) → Option ℕ → Type 0
LeavesAfter freed count deepest size depth (Some rest) = (rest + count * size ≡ freed + size + count) × (0 < count → deepest + depth ≤ max_depth)
LeavesAfter freed count deepest size depth None = (freed + size + count < count * size) ⊎ ((0 < count) × (max_depth < deepest + depth))
