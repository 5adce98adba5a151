-- What follows from a state by one attempt of a step: pairs are unified, and new subgoals stand in place of the first.
use Rattle.std.specs.Prelude.{◌≡◌, ◌≢◌, ℕ, List, [], ◌∷◌, ◌++◌, map, Result, Ok, Err}
use Rattle.pure_definitions.specs.Terms.Term.{Term}
use Rattle.pure_definitions.specs.Types.Order.{Algebra}
use Rattle.pure_logic.specs.Derivable.{Pair}
use Rattle.pure_logic.specs.Laws.Maps.{instantiated}
use Rattle.pure_unify_definitions.specs.LongSides as sides
use Rattle.pure_unify_definitions.specs.LongSides.{Stop, Long, Ends, ComesTo}
use Rattle.pure_unify_definitions.specs.Search as search
use Rattle.pure_unify_definitions.specs.Search.{Unifier, Answer, Unified, Stopped, IsUnifyAnswer}
use Rattle.pure_goal_steps.specs.State.{State, IsSmall, IsLarge}
use Rattle.pure_goal_steps.specs.declared.fault.StepFault.{StepFault}
use Rattle.pure_goal_steps.specs.declared.fault.StepFault.TheVariants as fault

-- what a step gives: a state, or the fault for which it is refused
abbrev pub Outcome : Type 0
Outcome = Result State StepFault

-- the fault that a stop of normalisation is
abbrev pub stop_fault : Stop → StepFault
stop_fault sides.Steps = fault.Steps
stop_fault sides.Big = fault.Big

-- what comes of subgoals: their long forms, or a stop
pub data Forms : Type 0 where
  AllLong : List Term → Forms
  Halted : Stop → Forms

-- The subgoals in order come to their long forms; the first that comes to a stop decides.
pub data Come : List Term → Forms → Type 0 where
  no_more : Come [] (AllLong [])
  first_stops : {A : Term} {As : List Term} {s : Stop} → ComesTo A (Ends s) → Come (A ∷ As) (Halted s)
  later_stops : {A S : Term} {As : List Term} {s : Stop} → ComesTo A (Long S) → Come As (Halted s) → Come (A ∷ As) (Halted s)
  all_long : {A S : Term} {As Ss : List Term} → ComesTo A (Long S) → Come As (AllLong Ss) → Come (A ∷ As) (AllLong (S ∷ Ss))

-- The state that a step makes is brought to long form: it is refused where a subgoal comes to a stop, and then where the one proposition of the state passes the limits.
pub data Becomes (made : State) : Outcome → Type 0 where
  halted : {s : Stop} → Come made.subgoals (Halted s) → Becomes made (Err (stop_fault s))
  large : {Ss : List Term} → Come made.subgoals (AllLong Ss) → IsLarge (record made { subgoals = Ss }) → Becomes made (Err fault.Big)
  small : {Ss : List Term} → Come made.subgoals (AllLong Ss) → IsSmall (record made { subgoals = Ss }) → Becomes made (Ok (record made { subgoals = Ss }))

-- An attempt to make a step on the first subgoal: the pairs that have to be unified with those of the goal, and before them; and the new subgoals in place of the first.
pub record Attempt : Type 0 where
  pub matched : List Pair
  pub premises : List Term

-- the pairs that the unifier gets
abbrev pub unified_pairs : State → Attempt → List Pair
unified_pairs s a = a.matched ++ s.pairs

-- the state with the new subgoals before the others, and the unifier's substitution applied to all, not reduced; its pairs are those that the unifier left
abbrev pub with_unifier : State → (others : List Term) → Attempt → Unifier → State
with_unifier s others a u = record {
  statement = instantiated u.typs u.terms s.statement;
  subgoals = map (instantiated u.typs u.terms) (a.premises ++ others);
  pairs = u.flexflex;
}

-- What follows from the unifier's answer.
abbrev pub Follows : State → (others : List Term) → Attempt → Answer → Outcome → Type 0
Follows s others a (Unified u) outcome = Becomes (with_unifier s others a u) outcome
Follows s others a search.NoUnifier outcome = outcome ≡ Err fault.NoUnifier
Follows s others a search.SearchBound outcome = outcome ≡ Err fault.SearchBound
Follows s others a (Stopped stop) outcome = outcome ≡ Err (stop_fault stop)

-- What follows from one attempt. Indexes in the pairs are at most `maxidx`.
pub record FollowsBy (A : Algebra) (maxidx : ℕ) (s : State) (others : List Term) (a : Attempt) (outcome : Outcome) : Type 0 where
  pub answer : Answer
  pub unified : IsUnifyAnswer A maxidx (unified_pairs s a) answer
  pub follows : Follows s others a answer outcome

-- What follows from attempts, one for each hypothesis: the first for which the unifier doesn't answer that there is none decides.
pub data FollowsByFirst (A : Algebra) (maxidx : ℕ) (s : State) (others : List Term) : List Attempt → Outcome → Type 0 where
  none : FollowsByFirst A maxidx s others [] (Err fault.NoHypothesis)
  passed : {a : Attempt} {rest : List Attempt} {outcome : Outcome} → IsUnifyAnswer A maxidx (unified_pairs s a) search.NoUnifier
      → FollowsByFirst A maxidx s others rest outcome → FollowsByFirst A maxidx s others (a ∷ rest) outcome
  decided : {a : Attempt} {rest : List Attempt} {answer : Answer} {outcome : Outcome} → IsUnifyAnswer A maxidx (unified_pairs s a) answer → answer ≢ search.NoUnifier
      → Follows s others a answer outcome → FollowsByFirst A maxidx s others (a ∷ rest) outcome
