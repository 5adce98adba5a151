-- Pairs that no map solves, and pairs that a map solves.
use Rattle.std.specs.Prelude.{[], ◌∷◌}
use Rattle.pure_definitions.specs.Types.Typ.{prop, arrow}
use Rattle.pure_definitions.specs.Terms.Term.{Term, Var, Bound, Abs, App}
use Rattle.pure_definitions.specs.Terms.Subst.{term_image}
use Rattle.pure_term_laws.specs.LawsExamples.{i, a, f}
use Rattle.pure_logic.specs.Derivable.{Pair}
use Rattle.pure_unify_definitions.specs.Fronts.{pair}
use Rattle.pure_unify_definitions.specs.Node.{bind}
use Rattle.pure_unify_answers.specs.Examples.{any_proposition, fixed_proposition, other_proposition}
use Rattle.pure_solutions.specs.Solutions.{IsTermSubstitution, SolvesPairs}

abbrev HasNone : Pair → Type 0
HasNone p = (terms : Term → Term) → IsTermSubstitution terms → ¬ SolvesPairs terms (p ∷ [])

abbrev IsSolvedBy : (Term → Term) → Pair → Type 0
IsSolvedBy terms p = IsTermSubstitution terms × SolvesPairs terms (p ∷ [])

-- A and B have none.
abbrev pub NoSolutionExample : Type 0
NoSolutionExample = HasNone (pair fixed_proposition other_proposition)

-- The map that sends `?A` to A solves `?A` and A.
abbrev pub SolutionExample : Type 0
SolutionExample = IsSolvedBy (term_image (bind 0 0 prop fixed_proposition ∷ [])) (pair any_proposition fixed_proposition)

-- a function that is schematic, `?F :: i => i`, and its long form `%x. ?F x`
abbrev pub any_function : Term
any_function = Var 0 0 (arrow i i)

abbrev pub any_long : Term
any_long = Abs i (App any_function (Bound 0))

-- `%x. ?F x` and `%x. f (?F x)` have none: `?F` occurs on a firm path.
abbrev pub FirmExample : Type 0
FirmExample = HasNone (pair any_long (Abs i (App f (App any_function (Bound 0)))))

-- `%x. ?F x` and `%x. ?F (f x)`, where it occurs on no firm path, have one: `?F` becomes `%x. a`.
abbrev pub OccurringExample : Type 0
OccurringExample = IsSolvedBy (term_image (bind 0 0 (arrow i i) (Abs i a) ∷ [])) (pair any_long (Abs i (App any_function (App f (Bound 0)))))
