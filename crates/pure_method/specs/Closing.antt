-- What the calls that close subgoals by assumption answer.
use Rattle.std.specs.Prelude.{◌≡◌, Ok, Err}
use Rattle.pure_definitions.specs.Declarations.Decl.{algebra_of}
use Rattle.pure_logic.specs.Content.{Content}
use Rattle.pure_logic.specs.Derivable.{Theorem}
use Rattle.pure_resolve.specs.GoalSteps.State.{State, IsTheoremOf}
use Rattle.pure_resolve.specs.GoalSteps.Steps.{AssumptionStep}
use Rattle.pure_resolve.specs.GoalSteps.declared.fault.StepFault.{StepFault}
use Rattle.pure_resolve.specs.Uses.{MayStep}
use Rattle.pure_method.specs.Proof.{Closes}

-- The goal's first subgoal isn't proved by assumption.
abbrev pub CannotAssume : Content → Theorem → Type 0
CannotAssume Q goal = (s : State) × IsTheoremOf s goal × ((f : StepFault) × AssumptionStep (algebra_of Q.declarations) s (Err f))

-- By assumption the goal becomes the other, on which steps may be made, and which rests on the same.
pub record IsAssumed (Q : Content) (goal new : Theorem) : Type 0 where
  pub before : State
  pub is_before : IsTheoremOf before goal
  pub after : State
  pub is_after : IsTheoremOf after new
  pub step : AssumptionStep (algebra_of Q.declarations) before (Ok after)
  pub rests : new.rests ≡ goal.rests
  pub may : MayStep Q new

-- By closing subgoals the goal becomes the other, on which steps may be made, and which rests on the same.
pub record IsClosed (Q : Content) (goal new : Theorem) : Type 0 where
  pub before : State
  pub is_before : IsTheoremOf before goal
  pub after : State
  pub is_after : IsTheoremOf after new
  pub closes : Closes (algebra_of Q.declarations) before after
  pub rests : new.rests ≡ goal.rests
  pub may : MayStep Q new
