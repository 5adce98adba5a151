-- Terms under a unifier: their instances, and these in long form.
use Rattle.std.specs.Prelude.{◌≡◌, ℕ, List, [], ◌∷◌, ◌++◌, map, length, Result, Ok, Err}
use Rattle.pure_text.specs.Lists.{Each}
use Rattle.pure_definitions.specs.Terms.Term.{Term, IsWithin}
use Rattle.pure_definitions.specs.Terms.Subst.{TypBind, TermBind, AreTypeRespecting}
use Rattle.pure_definitions.specs.Reduction.Eta.{IsLongForm}
use Rattle.pure_logic.specs.Connectives.{protect, chain}
use Rattle.pure_logic.specs.Derivable.{Theorem}
use Rattle.pure_logic.specs.Laws.Maps.{instantiated}
use Rattle.pure_theorem.specs.Shapes.{IsTyped}
use Rattle.pure_unify_definitions.specs.LongSides as sides
use Rattle.pure_unify_nodes.specs.SideAnswer.{AreSidesTyped}
use Rattle.pure_unify.specs.declared.unifier.Unifier.{Unifier}
use Rattle.pure_unify.specs.declared.fault.UnifyFault.{UnifyFault}
use Rattle.pure_unify.specs.declared.fault.UnifyFault.TheVariants as unify
use Rattle.pure_goal_steps.specs.State.{State, IsTheoremOf}
use Rattle.pure_goal_steps.specs.Follows.{Attempt, AllLong, Halted, Come}
use Rattle.pure_goal_steps.specs.declared.fault.StepFault.{StepFault}
use Rattle.pure_goal_steps.specs.declared.fault.StepFault.TheVariants.{NoUnifier, SearchBound, Steps, Big, Memory}

-- The maps set no types, and put terms of their variables' types.
pub record ArePlain (typs : List TypBind) (terms : List TermBind) : Type 0 where
  pub no_typs : typs ≡ []
  pub respecting : AreTypeRespecting terms

-- The answer for an instance of a term by finite maps: the instance, and then the maps respect types; or `Big` where it isn't within the limits; or `Memory`.
abbrev pub IsInstanceAnswer : List TypBind → List TermBind → Term → Result Term StepFault → Type 0
IsInstanceAnswer typs terms t (Ok u) = (u ≡ instantiated typs terms t) × AreTypeRespecting terms
IsInstanceAnswer typs terms t (Err Big) = ¬ IsWithin (instantiated typs terms t)
IsInstanceAnswer typs terms t (Err Memory) = Unit {0}
IsInstanceAnswer typs terms t (Err fault) = ⊥

-- The answer for terms: their long forms; or the stop to which the first that has none comes; or `Memory`.
abbrev pub IsComeAnswer : List Term → Result (List Term) StepFault → Type 0
IsComeAnswer As (Ok Ss) = Come As (AllLong Ss)
IsComeAnswer As (Err Steps) = Come As (Halted sides.Steps)
IsComeAnswer As (Err Big) = Come As (Halted sides.Big)
IsComeAnswer As (Err Memory) = Unit {0}
IsComeAnswer As (Err fault) = ⊥

-- The same for terms behind others whose instances by a map come to these long forms.
abbrev pub IsComeBehind : (f : Term → Term) → (front others : List Term) → Result (List Term) StepFault → Type 0
IsComeBehind f front others result = (As : List Term) → Come (map f As) (AllLong front) → IsComeAnswer (map f (As ++ others)) result

-- the fault of a step that the unifier's is
abbrev pub step_fault : UnifyFault → StepFault
step_fault unify.NoUnifier = NoUnifier
step_fault unify.SearchBound = SearchBound
step_fault unify.Steps = Steps
step_fault unify.Big = Big
step_fault unify.Memory = Memory

-- The goal's theorem has a first subgoal, and each of the others is in long form.
pub record HasFirst (goal : Theorem) : Type 0 where
  pub state : State
  pub is : IsTheoremOf state goal
  pub first : Term
  pub others : List Term
  pub stand : state.subgoals ≡ first ∷ others
  pub long : Each (λ A. IsLongForm A A) others

-- Behind so many of a goal's subgoals the maps leave the goal as it is: no variable that they set is in those that are left, nor in the statement.
pub record StaysBehind (typs : List TypBind) (terms : List TermBind) (count : ℕ) (As : List Term) (C : Term) : Type 0 where
  pub front : List Term
  pub others : List Term
  pub stand : As ≡ front ++ others
  pub counted : count ≡ length front
  pub stays : instantiated typs terms (chain others (protect C)) ≡ chain others (protect C)

-- The rest of a goal has at least so many subgoals, and each of these is in long form.
pub record HasLongFront (rest : Term) (count : ℕ) : Type 0 where
  pub front : List Term
  pub others : List Term
  pub statement : Term
  pub stand : rest ≡ chain (front ++ others) (protect statement)
  pub counted : count ≡ length front
  pub long : Each (λ A. IsLongForm A A) front

-- The rest of a goal has so many subgoals in front of others. The state's subgoals are the instances by the unifier of the new ones and of those in front, and then the others as they stand, in long form; its pairs are those that the unifier left.
pub record IsBefore (u : Unifier) (premises : List Term) (rest : Term) (count : ℕ) (made : State) : Type 0 where
  pub front : List Term
  pub others : List Term
  pub subgoals : made.subgoals ≡ map (instantiated u.typs u.terms) (premises ++ front) ++ others
  pub long : Each (λ A. IsLongForm A A) others
  pub stand : rest ≡ chain (front ++ others) (protect made.statement)
  pub counted : count ≡ length front
  pub pairs : made.pairs ≡ u.flexflex.items

-- The attempt may be made on the goal: what is unified is typed, and so are the new subgoals.
pub record MayAttempt (goal : Theorem) (a : Attempt) : Type 0 where
  pub pairs : Each AreSidesTyped (a.matched ++ goal.pairs)
  pub premises : Each IsTyped a.premises
