-- Tables of the sorts of type variables.
use Rattle.std.specs.Prelude.{◌≡◌, ◌↔◌, ℕ, List, [], ◌∷◌, nat_eq, if◌then◌else◌}
use Rattle.std.specs.List.Sorted.{IsStrictlyIncreasing}
use Rattle.pure_text.specs.Lists.{IsIn, Each, AnyOf}
use Rattle.pure_definitions.specs.Types.Order.{Algebra}
use Rattle.pure_elab.specs.declared.classes.WrittenClass.{WrittenClass}
use Rattle.pure_elab.specs.declared.sorts.VariableSort.{VariableSort}
use Rattle.pure_elab.specs.Written.{classes_at, IsReducedSort}

-- the sort that the table has of the variable, or the empty one
abbrev pub sort_among : List VariableSort → (name : ℕ) → List ℕ
sort_among [] x = []
sort_among (e ∷ es) x = if nat_eq e.name x then e.sort else sort_among es x

-- The table has the variable.
abbrev pub HasVariable : List VariableSort → (name : ℕ) → Type 0
HasVariable es x = AnyOf (λ e. e.name ≡ x) es

-- Each entry of the table has the reduced union of its variable's classes.
abbrev pub AreEntries : Algebra → List WrittenClass → List VariableSort → Type 0
AreEntries A written es = Each (λ e. IsReducedSort A (classes_at written e.name) e.sort) es

-- The sort has just these classes.
pub record IsSortOf (classes sort : List ℕ) : Type 0 where
  pub ascend : IsStrictlyIncreasing sort
  pub members : (c : ℕ) → IsIn c sort ↔ IsIn c classes
