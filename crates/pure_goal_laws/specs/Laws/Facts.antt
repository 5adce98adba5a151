-- Steps from derivable goals by derivable facts lead to derivable goals.
use Rattle.std.specs.Prelude.{◌≡◌, ℕ, List, [], ◌∷◌, ◌++◌}
use Rattle.pure_text.specs.Lists.{IsIn}
use Rattle.pure_definitions.specs.Names.{Label}
use Rattle.pure_definitions.specs.Types.Typ.{Typ, prop}
use Rattle.pure_definitions.specs.Terms.Term.{Term}
use Rattle.pure_logic.specs.Connectives.{eq, chain}
use Rattle.pure_logic.specs.Content.{Content}
use Rattle.pure_logic.specs.Derivable.{Theorem, IsDerivable}
use Rattle.pure_equation_laws.specs.Equated.{AreEquated}
use Rattle.pure_goal_laws.specs.Prefix.{Item, Hypothesis, behind, hypotheses}
use Rattle.pure_goal_laws.specs.Lifting.{lifted_behind}
use Rattle.pure_goal_laws.specs.GoalStep.{IsGoalStep, AreMatched, IsFactFor, IsRuleFor, lifted_premises, destructed_premises, IsEliminated}
use Rattle.pure_goal_laws.specs.Laws.Scope.{Above}

-- What holds of a goal with a subgoal of this prefix and conclusion before others, of a new goal, and of the maps of the step.
abbrev pub ForSubgoals : ((Q : Content) → (goal new : Theorem) → (others : List Term) → (G : Term) → (typs : Typ → Typ) → (terms : Term → Term) → Type 0) → Type 0
ForSubgoals law = Above (λ Q. (goal new : Theorem) (others : List Term) (G : Term) (typs : Typ → Typ) (terms : Term → Term) → law Q goal new others G typs terms)

-- By assumption.
abbrev pub AssumptionStep : Type 0
AssumptionStep = ForSubgoals (λ Q goal new others G typs terms. (ps : List Item) (H C : Term) → IsGoalStep Q goal new (behind ps C) others G [] typs terms → IsIn H (hypotheses ps) → AreMatched Q new typs terms ps H C
    → IsDerivable Q goal → IsDerivable Q new)

-- By a fact that is used as a rule.
abbrev pub RuleStep : Type 0
RuleStep = ForSubgoals (λ Q goal new others G typs terms. (ps : List Item) (C : Term) (fact : Theorem) (by : ℕ) (As : List Term) (B : Term) → IsGoalStep Q goal new (behind ps C) others G (lifted_premises typs terms ps As) typs terms
    → IsRuleFor Q new fact by As B → AreMatched Q new typs terms ps (lifted_behind ps B) C → IsDerivable Q goal → IsDerivable Q fact → IsDerivable Q new)

-- By a fact that is used as a rule to eliminate a hypothesis, and by one that destructs a hypothesis.
abbrev pub EliminationStep : Type 0
EliminationStep = ForSubgoals (λ Q goal new others G typs terms. (before : List Item) (H : Term) (after : List Item) (C : Term) (fact : Theorem) (by : ℕ) (P : Term) (As : List Term) (B : Term)
    → let ps = before ++ Hypothesis H ∷ after in
    IsGoalStep Q goal new (behind ps C) others G (lifted_premises typs terms (before ++ after) As) typs terms
    → IsRuleFor Q new fact by (P ∷ As) B → IsEliminated Q new typs terms before H after P → AreMatched Q new typs terms ps (lifted_behind ps B) C → IsDerivable Q goal → IsDerivable Q fact → IsDerivable Q new)

abbrev pub DestructionStep : Type 0
DestructionStep = ForSubgoals (λ Q goal new others G typs terms. (before : List Item) (H : Term) (after : List Item) (C : Term) (fact : Theorem) (by : ℕ) (P : Term) (As : List Term) (B : Term)
    → IsGoalStep Q goal new (behind (before ++ Hypothesis H ∷ after) C) others G (destructed_premises typs terms (before ++ after) C As B) typs terms
    → IsRuleFor Q new fact by (P ∷ As) B → IsEliminated Q new typs terms before H after P → IsDerivable Q goal → IsDerivable Q fact → IsDerivable Q new)

-- By a fact that is an equation `A == B`: it converts the first subgoal A to B, or to what is equated with B, as its long form is.
abbrev pub ConversionStep : Type 0
ConversionStep = Above (λ Q. (goal fact : Theorem) (A B S : Term) (others : List Term) (G : Term) (rests : List Label) → goal.hyps ≡ [] → goal.prop ≡ chain (A ∷ others) G → ((l : Label) → IsIn l goal.rests → IsIn l rests)
    → AreEquated Q.declarations goal.pairs [] prop B S → let new = record goal { prop = chain (S ∷ others) G; rests = rests } in IsFactFor new fact → fact.prop ≡ eq prop A B → IsDerivable Q goal → IsDerivable Q fact → IsDerivable Q new)
