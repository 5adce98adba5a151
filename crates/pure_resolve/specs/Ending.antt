-- The last step of a goal: what it answers; and its laws.
use Rattle.std.specs.Prelude.{◌≡◌, List, [], Result, Ok, Err}
use Rattle.pure_definitions.specs.Names.{Label}
use Rattle.pure_definitions.specs.Terms.Term.{Term}
use Rattle.pure_logic.specs.Connectives.{protect}
use Rattle.pure_logic.specs.Derivable.{Theorem, IsDerivable}
use Rattle.pure_goal_laws.specs.Laws.Scope.{Above}
use Rattle.pure_goal_steps.specs.State.{State, IsTheoremOf}
use Rattle.pure_goal_steps.specs.Steps.{EndsAs}
use Rattle.pure_goal_steps.specs.Derivability.{IsSound}
use Rattle.pure_goal_steps.specs.declared.fault.StepFault.{StepFault}
use Rattle.pure_goal_steps.specs.declared.fault.StepFault.TheVariants.{Memory}

-- The theorem's proposition is a marked statement.
abbrev pub IsMarked : Theorem → Type 0
IsMarked th = (C : Term) × (th.prop ≡ protect C)

-- The other theorem has the statement for its proposition.
pub record IsUnmarked (th new : Theorem) : Type 0 where
  pub statement : Term
  pub marked : th.prop ≡ protect statement
  pub is : new ≡ record th { prop = statement }

-- The answer is the outcome of the last step from the goal's state: the theorem that it proves, which rests on what the goal rests on; or the fault for which the step is refused; or `Memory`.
abbrev pub IsEnd : (goal : Theorem) → Result Theorem StepFault → Type 0
IsEnd goal (Ok th) = (s : State) × IsTheoremOf s goal × EndsAs s (Ok (record th { rests = [] })) × (th.rests ≡ goal.rests)
IsEnd goal (Err Memory) = Unit {0}
IsEnd goal (Err fault) = (s : State) × IsTheoremOf s goal × EndsAs s (Err fault)

-- The last step has one outcome at most.
abbrev pub EndsOnce : Type 0
EndsOnce = (s : State) (one other : Result Theorem StepFault) → EndsAs s one → EndsAs s other → one ≡ other

-- From a derivable goal it leads to a derivable theorem, which rests on what the goal rests on.
abbrev pub EndIsSound : Type 0
EndIsSound = Above (λ Q. (s : State) (th : Theorem) (rests : List Label) → IsSound Q rests s → EndsAs s (Ok th) → IsDerivable Q (record th { rests = rests }))
