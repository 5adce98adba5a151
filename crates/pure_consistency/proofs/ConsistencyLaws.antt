-- Pure is consistent.
use Rattle.std.proofs.Common.{◌≡◌, true, false, List, [], ◌∷◌, inl, inr, refl}
use Rattle.pure_text.specs.Lists.{AreDistinct}
use Rattle.pure_definitions.specs.Terms.Term.{Term}
use Rattle.pure_logic.specs.Connectives.{imp}
use Rattle.pure_logic.specs.Derivable.{IsDerivableAlone}
use Rattle.pure_logic.specs.Laws.Derivable.{PureIsConsistent}
use Rattle.pure_logic.specs.PureContent.{pure_content, proposition_variable}
use Rattle.pure_logic.proofs.DerivableLaws.{derivable_alone_exactly}
use Rattle.pure_consistency.specs.Values.{Value, Point, Truth}
use Rattle.pure_consistency.specs.Model.{AreValues, IsTrueUnder, revalued, first_values}
use Rattle.pure_consistency.specs.Laws.{TreesKeepTruth, one_point, OnePointIsOpen}
use Rattle.pure_consistency.proofs.DomainLaws.{domain-first}
use Rattle.pure_consistency.proofs.MeaningLaws.{values-revalued}
use Rattle.pure_consistency.proofs.TruthLaws.{keeps-truth}

pub trees_keep_truth : TreesKeepTruth
trees_keep_truth point points once d A h variables are hyps = keeps-truth (point ∷ points) (point, inl refl) once d A h variables are hyps

-- What is derivable alone is true, whatever the values of its variables are.
derivable-true : (point : Value) (points : List Value) → AreDistinct (point ∷ points) → (A : Term) → IsDerivableAlone pure_content A → (variables : Term → Value) → AreValues (point ∷ points) variables
    → IsTrueUnder (point ∷ points) variables A
derivable-true point points once A h variables are =
    let tree = (derivable_alone_exactly pure_content A).0 h in
    trees_keep_truth point points once tree.0 A tree.1 variables are (rw tree.2 tt)

first-values : (point : Value) (points : List Value) → AreValues (point ∷ points) (first_values (point ∷ points))
first-values point points = record { fixed = λ x T. domain-first (point ∷ points) (point, inl refl) T; schematic = λ x i T. domain-first (point ∷ points) (point, inl refl) T }

-- the model with one point, and that with two
single-distinct : AreDistinct (Point 0 ∷ [])
single-distinct = (λ m. m, tt)

double-distinct : AreDistinct (Point 0 ∷ Point 1 ∷ [])
double-distinct = (λ m. elim m [ inl e ↦ cc | inr n ↦ n ], (λ m. m, tt))

refuting-values : AreValues (Point 0 ∷ []) (revalued (proposition_variable 0) (Truth false) (first_values (Point 0 ∷ [])))
refuting-values = values-revalued (Point 0 ∷ []) (first_values (Point 0 ∷ [])) (proposition_variable 0) (Truth false) (first-values (Point 0) []) (inl refl)

pub pure_is_consistent : PureIsConsistent
pure_is_consistent h =
    let holds : Truth false ≡ Truth true = derivable-true (Point 0) [] single-distinct (proposition_variable 0) h (revalued (proposition_variable 0) (Truth false) (first_values (Point 0 ∷ []))) refuting-values in
    cc

pub one_point_is_open : OnePointIsOpen
one_point_is_open = (
  λ h. (let holds : Truth false ≡ Truth true = derivable-true (Point 0) (Point 1 ∷ []) double-distinct one_point h (first_values (Point 0 ∷ Point 1 ∷ [])) (first-values (Point 0) (Point 1 ∷ [])) in cc),
  λ h. (let holds : Truth false ≡ Truth true = derivable-true (Point 0) [] single-distinct (imp one_point (proposition_variable 0)) h (revalued (proposition_variable 0) (Truth false) (first_values (Point 0 ∷ []))) refuting-values in cc),
)
