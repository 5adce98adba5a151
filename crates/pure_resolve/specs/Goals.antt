-- Goals as theorems, and what calls on them answer.
use Rattle.std.specs.Prelude.{◌≡◌, List, [], ◌∷◌, ◌++◌, Result, Ok, Err}
use Rattle.pure_definitions.specs.Names.{Label}
use Rattle.pure_definitions.specs.Types.Typ.{Typ, prop}
use Rattle.pure_definitions.specs.Terms.Term.{Term, IsWithin}
use Rattle.pure_definitions.specs.Terms.Typing.{HasType}
use Rattle.pure_logic.specs.Connectives.{eq}
use Rattle.pure_logic.specs.Derivable.{Pair, Theorem, IsUnderPairs}
use Rattle.pure_theorem.specs.Sets.{label_cmp, IsSetOf}
use Rattle.pure_theorem.specs.Shapes.{IsTyped}
use Rattle.pure_unify_definitions.specs.LongSides as sides
use Rattle.pure_unify_definitions.specs.LongSides.{Long, Ends, ComesTo}
use Rattle.pure_unify_definitions.specs.Search.{Unifier}
use Rattle.pure_goal_steps.specs.State.{State, IsTheoremOf, IsGoal}
use Rattle.pure_goal_steps.specs.Follows.{Outcome, Attempt, Becomes, with_unifier}
use Rattle.pure_goal_steps.specs.declared.fault.StepFault.{StepFault}
use Rattle.pure_goal_steps.specs.declared.fault.StepFault.TheVariants.{Steps, Big, Memory}
use Rattle.pure_resolve.specs.declared.state.Goal.{Goal}

-- The theorem is that of a goal: of a state that steps may start from.
pub record IsGoalTheorem (th : Theorem) : Type 0 where
  pub state : State
  pub is : IsTheoremOf state th
  pub goal : IsGoal state

-- The call's answer is the step's outcome: the theorem of a state to which the step leads, which is a goal again, and rests as said; or the fault for which the step is refused; or `Memory`.
abbrev pub IsOutcome : (Gives : Outcome → Type 0) → (Rests : List Label → Type 0) → Result Goal StepFault → Type 0
IsOutcome Gives Rests (Ok new) = (s : State) × Gives (Ok s) × IsTheoremOf s new.thm × IsGoal s × Rests new.thm.rests
IsOutcome Gives Rests (Err Memory) = Unit {0}
IsOutcome Gives Rests (Err fault) = Gives (Err fault)

-- The same of a step from the goal's state, which is one that steps may start from.
abbrev pub IsStep : (Gives : State → Outcome → Type 0) → (goal : Theorem) → (Rests : List Label → Type 0) → Result Goal StepFault → Type 0
IsStep Gives goal Rests result = (s : State) × IsTheoremOf s goal × IsGoal s × IsOutcome (Gives s) Rests result

-- The same of what is given from each state whose theorem this is, with the subgoals behind its first, where the labels are these.
abbrev pub IsOutcomeFrom : (goal : Theorem) → (Gives : State → (others : List Term) → Outcome → Type 0) → (rests : List Label) → Result Goal StepFault → Type 0
IsOutcomeFrom goal Gives rests result = (s : State) → (first : Term) → (others : List Term) → IsTheoremOf s goal → s.subgoals ≡ first ∷ others → IsOutcome (Gives s others) (λ all. all ≡ rests) result

-- The same of the state that the unifier makes of an attempt with these premises.
abbrev pub IsMadeFrom : (goal : Theorem) → (premises : List Term) → Unifier → (rests : List Label) → Result Goal StepFault → Type 0
IsMadeFrom goal premises u rests result = (s : State) → (first : Term) → (others : List Term) → (a : Attempt) → IsTheoremOf s goal → s.subgoals ≡ first ∷ others → a.premises ≡ premises
    → IsOutcome (Becomes (with_unifier s others a u)) (λ all. all ≡ rests) result

-- The left side of the pair has a type under no binders.
abbrev pub IsLeftTyped : Pair → Type 0
IsLeftTyped p = IsTyped p.left

-- The term is the equation of the pair.
abbrev pub IsEquationOf : Pair → Term → Type 0
IsEquationOf p e = (T : Typ) × HasType [] p.left T × (e ≡ eq T p.left p.right)

-- A goal of these pairs, this proposition and these promises, within the limits; or `Big` where it isn't within them; or `Memory`.
abbrev pub IsConcluded : List Pair → Term → List Label → Result Goal StepFault → Type 0
IsConcluded pairs A rests (Ok new) = (new.thm ≡ record { hyps = []; pairs = pairs; prop = A; rests = rests }) × ((q : Term) × IsUnderPairs pairs A q × IsWithin q)
IsConcluded pairs A rests (Err Big) = (q : Term) × IsUnderPairs pairs A q × (¬ IsWithin q)
IsConcluded pairs A rests (Err Memory) = Unit {0}
IsConcluded pairs A rests (Err fault) = ⊥

-- The goal of the theorem's pairs and this proposition, which rests on what the theorem and the fact rest on, within the limits; or `Big`; or `Memory`.
abbrev pub IsUnited : (th fact : Theorem) → Term → Result Goal StepFault → Type 0
IsUnited th fact A (Err Memory) = Unit {0}
IsUnited th fact A result = (rests : List Label) × IsSetOf label_cmp (th.rests ++ fact.rests) rests × IsConcluded th.pairs A rests result

-- The long form of a subgoal, or the stop to which it comes; or `Memory`.
abbrev pub IsLongSubgoal : Term → Result Term StepFault → Type 0
IsLongSubgoal t (Ok u) = ComesTo t (Long u)
IsLongSubgoal t (Err Steps) = ComesTo t (Ends sides.Steps)
IsLongSubgoal t (Err Big) = ComesTo t (Ends sides.Big)
IsLongSubgoal t (Err Memory) = Unit {0}
IsLongSubgoal t (Err fault) = ⊥

-- The theorem is an equation of propositions, without hypotheses and pairs, whose left side is the goal's first subgoal.
pub record IsEquationFor (goal equation : Theorem) : Type 0 where
  pub state : State
  pub is : IsTheoremOf state goal
  pub left : Term
  pub right : Term
  pub others : List Term
  pub stand : state.subgoals ≡ left ∷ others
  pub equates : equation.prop ≡ eq prop left right
  pub right_typed : IsTyped right
  pub no_hyps : equation.hyps ≡ []
  pub no_pairs : equation.pairs ≡ []
