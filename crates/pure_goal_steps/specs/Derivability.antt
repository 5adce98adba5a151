-- Laws of steps: from a derivable goal each leads to a derivable one, whose subgoals and pairs are again as steps want them.
use Rattle.std.specs.Prelude.{◌≡◌, ℕ, List, [], Ok}
use Rattle.pure_text.specs.Lists.{IsIn, Each}
use Rattle.pure_definitions.specs.Names.{Label}
use Rattle.pure_definitions.specs.Terms.Term.{Term}
use Rattle.pure_logic.specs.Content.{Content, IsProposition}
use Rattle.pure_logic.specs.Derivable.{Theorem, IsDerivable}
use Rattle.pure_goal_laws.specs.Laws.Scope.{Above}
use Rattle.pure_goal_steps.specs.State.{State, theorem_of, IsLeftPair, IsGoal}
use Rattle.pure_goal_steps.specs.Follows.{Becomes}
use Rattle.pure_goal_steps.specs.Steps.{BeginsAs, PreferStep, DeferStep, ConversionStep}

-- The state is a goal, and is derivable where it rests on these promises.
pub record IsSound (Q : Content) (rests : List Label) (s : State) : Type 0 where
  pub goal : IsGoal s
  pub derivable : IsDerivable Q (theorem_of s rests)

-- A derivable state with such pairs is brought to long form.
abbrev pub BecomesSound : Type 0
BecomesSound = Above (λ Q. (made s : State) (rests : List Label) → Each IsLeftPair made.pairs → IsDerivable Q (theorem_of made rests) → Becomes made (Ok s) → IsSound Q rests s)

-- A goal for a proposition is derivable, whatever it rests on.
abbrev pub BeginsSound : Type 0
BeginsSound = Above (λ Q. (C : Term) (s : State) → IsProposition Q C → BeginsAs C (Ok s) → IsSound Q [] s)

-- Subgoals are put in another order.
abbrev pub PreferredIsSound : Type 0
PreferredIsSound = Above (λ Q. (s new : State) (n : ℕ) (rests : List Label) → IsSound Q rests s → PreferStep s n (Ok new) → IsSound Q rests new)

abbrev pub DeferredIsSound : Type 0
DeferredIsSound = Above (λ Q. (s new : State) (rests : List Label) → IsSound Q rests s → DeferStep s (Ok new) → IsSound Q rests new)

-- The first subgoal is converted by a derivable equation; the new goal rests on what the goal and the equation rest on.
abbrev pub ConvertedIsSound : Type 0
ConvertedIsSound = Above (λ Q. (s new : State) (equation : Theorem) (rests all : List Label) → IsSound Q rests s → equation.hyps ≡ [] → equation.pairs ≡ [] → IsDerivable Q equation
    → ((l : Label) → IsIn l rests → IsIn l all) → ((l : Label) → IsIn l equation.rests → IsIn l all) → ConversionStep s equation (Ok new) → IsSound Q all new)
