-- Patterns, images and answers, as examples.
use Rattle.std.specs.Prelude.{◌≡◌, [], ◌∷◌}
use Rattle.pure_definitions.specs.Types.Typ.{Typ, arrow, prop}
use Rattle.pure_definitions.specs.Terms.Term.{Var, Bound, Abs, App}
use Rattle.pure_definitions.specs.Terms.Subst.{term_image}
use Rattle.pure_term_laws.specs.LawsExamples.{i, a, f}
use Rattle.pure_unify_definitions.specs.Fronts.{pair}
use Rattle.pure_unify_definitions.specs.Node.{bind}
use Rattle.pure_unify_answers.specs.Examples.{any_proposition, fixed_proposition, other_proposition}
use Rattle.pure_unify_final.specs.Examples.{any_function}
use Rattle.pure_pattern_laws.specs.Patterns.{IsPattern}
use Rattle.pure_pattern_laws.specs.Treatment.{agreeing_image, left_image, right_image}
use Rattle.pure_pattern_laws.specs.Putting.{put_in}
use Rattle.pure_pattern_laws.specs.Answers.{Unified, NoUnifier, NotPattern, IsPatternAnswer}

-- the type of functions of two arguments, and of three
abbrev pub two : Typ
two = arrow i (arrow i i)

abbrev pub three : Typ
three = arrow i two

-- `%h. ?F (%x. h x)` is a pattern, as its argument is h up to eta steps; `?F a` is none, and neither is `%x. ?F x x`.
abbrev pub PatternExample : Type 0
PatternExample = IsPattern (Abs (arrow i i) (App (Var 0 0 (arrow (arrow i i) i)) (Abs i (App (Bound 1) (Bound 0))))) × (¬ IsPattern (App any_function a)) × (¬ IsPattern (Abs i (App (App (Var 0 0 two) (Bound 0)) (Bound 0))))

-- `%x y z. ?F x y z` and `%x y z. ?F x z y`: `?F` becomes `%x y z. ?H x`, with a new `?H`.
abbrev pub AgreeingExample : Type 0
AgreeingExample = agreeing_image 5 three (2 ∷ 1 ∷ 0 ∷ []) (2 ∷ 0 ∷ 1 ∷ []) ≡ Abs i (Abs i (Abs i (App (Var 0 5 (arrow i i)) (Bound 2))))

-- `%x y z. ?F x z` and `%x y z. ?G z y x`: `?F` becomes `%x z. ?H x z`, and `?G` becomes `%z y x. ?H x z`.
abbrev pub SharedExample : Type 0
SharedExample = (left_image 5 two (2 ∷ 0 ∷ []) (0 ∷ 1 ∷ 2 ∷ []) ≡ Abs i (Abs i (App (App (Var 0 5 two) (Bound 1)) (Bound 0))))
    × (right_image 5 three (2 ∷ 0 ∷ []) (0 ∷ 1 ∷ 2 ∷ []) ≡ Abs i (Abs i (Abs i (App (App (Var 0 5 two) (Bound 0)) (Bound 2)))))

-- `%x y. f x` put in for `?F` into `%u v. ?F v u` gives `%u v. f v`.
abbrev pub PutExample : Type 0
PutExample = put_in (term_image (bind 0 0 two (Abs i (Abs i (App f (Bound 1)))) ∷ [])) (Abs i (Abs i (App (App (Var 0 0 two) (Bound 0)) (Bound 1)))) ≡ Abs i (Abs i (App f (Bound 0)))

-- `?A` and A have the unifier that sets `?A` to A.
abbrev pub UnifiedExample : Type 0
UnifiedExample = IsPatternAnswer 0 (pair any_proposition fixed_proposition ∷ []) (Unified (bind 0 0 prop fixed_proposition ∷ []))

-- A and B have none.
abbrev pub ClashExample : Type 0
ClashExample = IsPatternAnswer 0 (pair fixed_proposition other_proposition ∷ []) NoUnifier

-- Of `?A`, A and then `?F a`, a the second pair is refused.
abbrev pub RefusedExample : Type 0
RefusedExample = IsPatternAnswer 0 (pair any_proposition fixed_proposition ∷ pair (App any_function a) a ∷ []) (NotPattern 1)
