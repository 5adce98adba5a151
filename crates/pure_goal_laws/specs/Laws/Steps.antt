-- The law of goal steps, and what justifies one.
use Rattle.std.specs.Prelude.{List, [], ◌∷◌, ◌++◌}
use Rattle.pure_text.specs.Lists.{IsIn}
use Rattle.pure_definitions.specs.Types.Typ.{Typ, prop}
use Rattle.pure_definitions.specs.Terms.Term.{Term}
use Rattle.pure_logic.specs.Connectives.{eq, chain}
use Rattle.pure_logic.specs.Content.{Content, IsProposition}
use Rattle.pure_logic.specs.Concludes.{AreRespecting}
use Rattle.pure_logic.specs.Derivable.{Theorem, IsDerivable}
use Rattle.pure_logic.specs.Proves.{Proves}
use Rattle.pure_goal_laws.specs.Laws.Scope.{Above}
use Rattle.pure_goal_laws.specs.Prefix.{Item, Hypothesis, behind, hypotheses}
use Rattle.pure_goal_laws.specs.Lifting.{lifted_behind}
use Rattle.pure_goal_laws.specs.GoalStep.{IsGoalStep, IsJustified, AreMatched, lifted_premises, destructed_premises, IsEliminated}

-- A step from a derivable goal leads to a derivable goal where its premises justify the first subgoal.
abbrev pub StepIsDerivable : Type 0
StepIsDerivable = Above (λ Q. (goal new : Theorem) (A : Term) (others : List Term) (G : Term) (premises : List Term) (typs : Typ → Typ) (terms : Term → Term)
    → IsGoalStep Q goal new A others G premises typs terms → IsJustified Q new A premises typs terms → IsDerivable Q goal → IsDerivable Q new)

-- What holds of the justifications of a step to a new goal, by respecting maps.
abbrev pub ForSteps : ((Q : Content) → (new : Theorem) → (typs : Typ → Typ) → (terms : Term → Term) → Type 0) → Type 0
ForSteps law = Above (λ Q. (new : Theorem) (typs : Typ → Typ) (terms : Term → Term) → AreRespecting Q typs terms → law Q new typs terms)

-- By a rule: where its lifted conclusion is matched with that of the subgoal, its lifted premises justify the subgoal.
abbrev pub ByRule : Type 0
ByRule = ForSteps (λ Q new typs terms. (ps : List Item) (C : Term) → IsProposition Q (behind ps C) → (As : List Term) (B : Term) → Proves Q [] new.rests (chain As B)
    → AreMatched Q new typs terms ps (lifted_behind ps B) C
    → IsJustified Q new (behind ps C) (lifted_premises typs terms ps As) typs terms)

-- By assumption: where a hypothesis of the subgoal is matched with its conclusion, the subgoal is justified without premises.
abbrev pub ByAssumption : Type 0
ByAssumption = ForSteps (λ Q new typs terms. (ps : List Item) (C : Term) → IsProposition Q (behind ps C) → (H : Term) → IsIn H (hypotheses ps) → AreMatched Q new typs terms ps H C
    → IsJustified Q new (behind ps C) [] typs terms)

-- By elimination: where its lifted conclusion is matched with that of the subgoal, and its first premise with a hypothesis, its other premises justify the subgoal, behind the prefix without that hypothesis.
abbrev pub ByElimination : Type 0
ByElimination = ForSteps (λ Q new typs terms. (before : List Item) (H : Term) (after : List Item) (C : Term) → let ps = before ++ Hypothesis H ∷ after in IsProposition Q (behind ps C)
    → (P : Term) (As : List Term) (B : Term) → Proves Q [] new.rests (chain (P ∷ As) B) → IsEliminated Q new typs terms before H after P → AreMatched Q new typs terms ps (lifted_behind ps B) C
    → IsJustified Q new (behind ps C) (lifted_premises typs terms (before ++ after) As) typs terms)

-- By destruction: where the first premise of a rule is matched with a hypothesis, the others, behind the prefix without that hypothesis, justify the subgoal together with its own conclusion behind that prefix, which has the rule's conclusion as its last hypothesis.
abbrev pub ByDestruction : Type 0
ByDestruction = ForSteps (λ Q new typs terms. (before : List Item) (H : Term) (after : List Item) (C : Term) → IsProposition Q (behind (before ++ Hypothesis H ∷ after) C)
    → (P : Term) (As : List Term) (B : Term) → Proves Q [] new.rests (chain (P ∷ As) B) → IsEliminated Q new typs terms before H after P
    → IsJustified Q new (behind (before ++ Hypothesis H ∷ after) C) (destructed_premises typs terms (before ++ after) C As B) typs terms)

-- By an equation: `A == B` justifies A by B, under the identity maps.
abbrev pub ByEquation : Type 0
ByEquation = Above (λ Q. (new : Theorem) (A B : Term) → Proves Q [] new.rests (eq prop A B) → IsJustified Q new A (B ∷ []) (λ T. T) (λ t. t))
