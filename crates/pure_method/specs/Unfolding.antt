-- The step that unfolds definitions in a subgoal (Isabelle/Isar Implementation manual, sections 2.3 and 4.2).
use Rattle.std.specs.Prelude.{◌≡◌, ◌⊎◌, List, [], ◌∷◌, ◌++◌, Result, Ok, Err}
use Rattle.pure_definitions.specs.Names.{Label}
use Rattle.pure_definitions.specs.Types.Typ.{prop}
use Rattle.pure_definitions.specs.Types.Order.{Algebra}
use Rattle.pure_definitions.specs.Terms.Term.{Term, IsWithin}
use Rattle.pure_logic.specs.Connectives.{eq}
use Rattle.pure_logic.specs.Derivable.{Theorem}
use Rattle.pure_unfold.specs.Unfold.{IsNoDefinition, Unfolds, UnfoldsNothing}
use Rattle.pure_resolve.specs.GoalSteps.State.{State}
use Rattle.pure_resolve.specs.GoalSteps.Follows.{Outcome}
use Rattle.pure_resolve.specs.GoalSteps.Steps.{ConversionStep}
use Rattle.pure_resolve.specs.GoalSteps.declared.fault.StepFault.{StepFault}
use Rattle.pure_resolve.specs.GoalSteps.declared.fault.StepFault.TheVariants as fault
use Rattle.pure_method.specs.Facts.{theorem}

-- The equation of two propositions is within the limits.
abbrev pub IsSmallEquation : (left right : Term) → Type 0
IsSmallEquation left right = IsWithin (eq prop left right)

-- A fact is taken on a term, to which another has come by the facts before it. Its tests are, in order: whether it is a definition; whether it unfolds anything in the term; and whether its equation is within the limits, and that which is chained from the first term up to it.
pub data TakesFact (A : Algebra) (first now : Term) (fact : Theorem) : Result Term StepFault → Type 0 where
  no_definition : IsNoDefinition fact.prop → TakesFact A first now fact (Err fault.NotDefinition)
  nothing : UnfoldsNothing A fact.prop now → TakesFact A first now fact (Err fault.NothingToUnfold)
  large : {u : Term} → Unfolds A fact.prop now u → (¬ IsSmallEquation now u) ⊎ (¬ IsSmallEquation first u) → TakesFact A first now fact (Err fault.Big)
  unfolded : {u : Term} → Unfolds A fact.prop now u → IsSmallEquation now u → IsSmallEquation first u → TakesFact A first now fact (Ok u)

-- The facts are taken one after the other, each on the term that the one before gave; so they come to a last term, or to a fault: the first fact that fails decides.
pub data ComesByFacts (A : Algebra) (first : Term) : (now : Term) → List Theorem → Result Term StepFault → Type 0 where
  no_more : {now : Term} → ComesByFacts A first now [] (Ok now)
  fails : {now : Term} {fact : Theorem} {facts : List Theorem} {f : StepFault} → TakesFact A first now fact (Err f) → ComesByFacts A first now (fact ∷ facts) (Err f)
  goes_on : {now u : Term} {fact : Theorem} {facts : List Theorem} {end : Result Term StepFault} → TakesFact A first now fact (Ok u) → ComesByFacts A first u facts end → ComesByFacts A first now (fact ∷ facts) end

-- the promises on which theorems rest, one theorem after the other
abbrev pub all_rests : List Theorem → List Label
all_rests [] = []
all_rests (th ∷ ths) = th.rests ++ all_rests ths

-- the equation of the first subgoal and what it comes to by the facts
abbrev pub chained_equation : (first last : Term) → (facts : List Theorem) → Theorem
chained_equation first last facts = theorem (eq prop first last) (all_rests facts)

-- The facts are unfolded in the first subgoal, and after the last one the goal is converted, once.
pub data UnfoldStep (A : Algebra) (s : State) (facts : List Theorem) : Outcome → Type 0 where
  no_subgoal : s.subgoals ≡ [] → UnfoldStep A s facts (Err fault.NoSubgoal)
  refused : {first : Term} {others : List Term} {f : StepFault} → s.subgoals ≡ first ∷ others → ComesByFacts A first first facts (Err f) → UnfoldStep A s facts (Err f)
  converted : {first last : Term} {others : List Term} {outcome : Outcome} → s.subgoals ≡ first ∷ others → ComesByFacts A first first facts (Ok last)
      → ConversionStep s (chained_equation first last facts) outcome → UnfoldStep A s facts outcome
