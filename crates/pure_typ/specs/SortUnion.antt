-- The union of two sorts.
use Rattle.std.specs.Prelude.{◌↔◌, ◌⊎◌, ℕ, List}
use Rattle.std.specs.List.Sorted.{IsStrictlyIncreasing}
use Rattle.pure_text.specs.Lists.{IsIn}

-- The classes ascend strictly, and are those that stand in one of the two sorts.
pub record IsSortUnion (left right classes : List ℕ) : Type 0 where
  pub ascend : IsStrictlyIncreasing classes
  pub members : (c : ℕ) → IsIn c classes ↔ (IsIn c left ⊎ IsIn c right)
