-- Laws of steps: each has one outcome at most.
use Rattle.std.specs.Prelude.{◌≡◌, ℕ, List}
use Rattle.pure_definitions.specs.Types.Order.{Algebra}
use Rattle.pure_definitions.specs.Terms.Term.{Term}
use Rattle.pure_logic.specs.Derivable.{Theorem}
use Rattle.pure_order_tables.specs.Classes.{IsAntisymmetric}
use Rattle.pure_goal_laws.specs.Prefix.{Item}
use Rattle.pure_goal_steps.specs.State.{State}
use Rattle.pure_goal_steps.specs.Reading.{IsRead, IsRuleOf}
use Rattle.pure_goal_steps.specs.Follows.{Outcome}
use Rattle.pure_goal_steps.specs.Steps.{BeginsAs, RuleStep, EliminationStep, DestructionStep, AssumptionStep, PreferStep, DeferStep, ConversionStep}

-- A relation to outcomes has one at most.
abbrev pub HasOne : (Outcome → Type 0) → Type 0
HasOne Gives = (one other : Outcome) → Gives one → Gives other → one ≡ other

-- A subgoal is read in one way, and a fact is one rule on a goal.
abbrev pub ReadOnce : Type 0
ReadOnce = (A : Term) (ps qs : List Item) (C D : Term) → IsRead A ps C → IsRead A qs D → (ps ≡ qs) × (C ≡ D)

abbrev pub OneRule : Type 0
OneRule = (goal fact : Theorem) (As Bs : List Term) (C D : Term) → IsRuleOf goal fact As C → IsRuleOf goal fact Bs D → (As ≡ Bs) × (C ≡ D)

-- Each step has one outcome at most; those that unify, over an order in which no two classes are below each other.
abbrev pub BeginsOnce : Type 0
BeginsOnce = (C : Term) → HasOne (BeginsAs C)

abbrev pub RuleOnce : Type 0
RuleOnce = (A : Algebra) → IsAntisymmetric A → (s : State) (fact : Theorem) → HasOne (RuleStep A s fact)

abbrev pub EliminationOnce : Type 0
EliminationOnce = (A : Algebra) → IsAntisymmetric A → (s : State) (fact : Theorem) → HasOne (EliminationStep A s fact)

abbrev pub DestructionOnce : Type 0
DestructionOnce = (A : Algebra) → IsAntisymmetric A → (s : State) (fact : Theorem) → HasOne (DestructionStep A s fact)

abbrev pub AssumptionOnce : Type 0
AssumptionOnce = (A : Algebra) → IsAntisymmetric A → (s : State) → HasOne (AssumptionStep A s)

abbrev pub PreferOnce : Type 0
PreferOnce = (s : State) (n : ℕ) → HasOne (PreferStep s n)

abbrev pub DeferOnce : Type 0
DeferOnce = (s : State) → HasOne (DeferStep s)

abbrev pub ConversionOnce : Type 0
ConversionOnce = (s : State) (equation : Theorem) → HasOne (ConversionStep s equation)
