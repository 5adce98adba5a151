-- Variables in the sides of a pair.
use Rattle.std.specs.Prelude.{Bool, ◌||◌}
use Rattle.std.specs.List.{list_any}
use Rattle.pure_definitions.specs.Terms.Term.{Term, term_eq}
use Rattle.pure_logic.specs.Derivable.{Pair}
use Rattle.pure_unify_definitions.specs.Fronts.{variables}

-- whether the variable stands in a side of the pair
abbrev pub stands_in_sides : Term → Pair → Bool
stands_in_sides v p = list_any (term_eq v) (variables p.left) || list_any (term_eq v) (variables p.right)
