-- What the calls for steps without unification answer, from what their parts ensure.
use Rattle.std.proofs.Common.{◌≡◌, ◌⊎◌, ℕ, ◌+◌, ◌<◌, List, [], ◌∷◌, ◌++◌, length, Result, Err, refl, ap, sym, subst, ◌∙◌}
use Rattle.pure_text.specs.Lists.{Each}
use Rattle.pure_text.proofs.ListLaws.{each-append, each-left, each-right}
use Rattle.pure_definitions.specs.Names.{Label}
use Rattle.pure_definitions.specs.Types.Typ.{Typ, prop}
use Rattle.pure_definitions.specs.Terms.Term.{Term}
use Rattle.pure_definitions.specs.Reduction.Eta.{IsLongForm}
use Rattle.pure_logic.specs.Connectives.{eq, protect, chain}
use Rattle.pure_logic.specs.Derivable.{Pair, Theorem}
use Rattle.pure_unify_definitions.specs.LongSides as sides
use Rattle.pure_unify_definitions.specs.LongSides.{Stop, Long, Ends, ComesTo}
use Rattle.pure_goal_steps.specs.State.{State, IsLeftPair}
use Rattle.pure_goal_steps.specs.Follows.{Outcome, stop_fault, Halted, Come, no_more, first_stops, all_long, Becomes, halted}
use Rattle.pure_goal_steps.specs.Steps.{BeginsAs, PreferStep, DeferStep, ConversionStep}
use Rattle.pure_goal_steps.specs.declared.fault.StepFault.{StepFault}
use Rattle.pure_goal_steps.specs.declared.fault.StepFault.TheVariants.{UnknownFact, NoSubgoal, NoPremise, NotDefinition, NothingToUnfold, NoUnifier, SearchBound, Steps, Big, NoHypothesis, SubgoalsLeft, Memory}
use Rattle.pure_goal_steps.proofs.SoundLaws.{come-long}
use Rattle.pure_resolve.specs.Goals.{IsGoalTheorem, IsOutcome, IsStep, IsConcluded, IsLongSubgoal, IsEquationFor}
use Rattle.pure_resolve.specs.declared.state.Goal.{Goal}
use Rattle.pure_resolve.proofs.ChainLaws.{IsCut, chain_once}
use Rattle.pure_resolve.proofs.AnswerLaws.{made_outcome, outcome_map}

-- the parts of a goal, concluded at their own names
pub concluded-at : (pairs ps : List Pair) (A B : Term) (rests rs : List Label) (result : Result Goal StepFault) → pairs ≡ ps → A ≡ B → rests ≡ rs → IsConcluded pairs A rests result → IsConcluded ps B rs result
concluded-at pairs ps A B rests rs result e d f h = subst (λ (k : List Pair × (Term × List Label)). IsConcluded k.0 k.1.0 k.1.1 result) (λ i. (e i, (d i, f i))) h

-- The subgoals in another order.
moved-outcome : (th : Theorem) (g : IsGoalTheorem th) (new : List Term) → Each (λ A. IsLongForm A A) new → (moved : Term) → moved ≡ chain new (protect g.state.statement)
    → (result : Result Goal StepFault) → IsConcluded th.pairs moved th.rests result → IsOutcome (Becomes (record g.state { subgoals = new })) (λ all. all ≡ th.rests) result
moved-outcome th g new long moved m result h =
    made_outcome (record g.state { subgoals = new }) [] [] new refl no_more tt long g.goal.left_pairs th.rests result
    (concluded-at th.pairs g.state.pairs moved (chain new (protect g.state.statement)) th.rests th.rests result g.is.same_pairs m refl h)

pub prefer_answer : (th : Theorem) (g : IsGoalTheorem th) (n place : ℕ) → n ≡ place + 1 → (cut : IsCut g.state.subgoals place) → (moved : Term) → moved ≡ chain (cut.at ∷ (cut.before ++ cut.after)) (protect g.state.statement)
    → (result : Result Goal StepFault) → IsConcluded th.pairs moved th.rests result → IsStep (λ s. PreferStep s n) th (λ all. all ≡ th.rests) result
prefer_answer th g n place c cut moved m result h =
    let all : List Term = cut.at ∷ (cut.before ++ cut.after) in
    let long = subst (λ (As : List Term). Each (λ A. IsLongForm A A) As) cut.stands g.goal.long_subgoals in
    let front = each-left (λ A. IsLongForm A A) cut.before (cut.at ∷ cut.after) long in
    let back = each-right (λ A. IsLongForm A A) cut.before (cut.at ∷ cut.after) long in
    let all_so : Each (λ A. IsLongForm A A) all = (back.0, each-append (λ A. IsLongForm A A) cut.before cut.after front back.1) in
    let counted : n ≡ length cut.before + 1 = c ∙ ap (λ (k : ℕ). k + 1) cut.count in (
      g.state,
      g.is,
      g.goal,
      outcome_map (Becomes (record g.state { subgoals = all })) (PreferStep g.state n) (λ all. all ≡ th.rests) (λ all. all ≡ th.rests)
          (λ outcome b. PreferStep.preferred cut.before cut.at cut.after cut.stands counted b) (λ all r. r) result (moved-outcome th g all all_so moved m result h),
    )

pub prefer_none : (th : Theorem) (g : IsGoalTheorem th) (n : ℕ) → (n ≡ 0) ⊎ (length g.state.subgoals < n) → IsStep (λ s. PreferStep s n) th (λ all. all ≡ th.rests) (Err NoSubgoal)
prefer_none th g n h = (g.state, g.is, g.goal, PreferStep.no_subgoal h)

pub defer_answer : (th : Theorem) (g : IsGoalTheorem th) (A : Term) (others : List Term) → g.state.subgoals ≡ A ∷ others → (moved : Term) → moved ≡ chain (others ++ A ∷ []) (protect g.state.statement)
    → (result : Result Goal StepFault) → IsConcluded th.pairs moved th.rests result → IsStep DeferStep th (λ all. all ≡ th.rests) result
defer_answer th g A others stands moved m result h =
    let all : List Term = others ++ A ∷ [] in
    let long = subst (λ (As : List Term). Each (λ A. IsLongForm A A) As) stands g.goal.long_subgoals in
    let all_so : Each (λ A. IsLongForm A A) all = each-append (λ A. IsLongForm A A) others (A ∷ []) long.1 (long.0, tt) in (
      g.state,
      g.is,
      g.goal,
      outcome_map (Becomes (record g.state { subgoals = all })) (DeferStep g.state) (λ all. all ≡ th.rests) (λ all. all ≡ th.rests)
          (λ outcome b. DeferStep.deferred A others stands b) (λ all r. r) result (moved-outcome th g all all_so moved m result h),
    )

-- A first subgoal that comes to its long form, before others that are so.
first-outcome : (made : State) (t S : Term) (others : List Term) → made.subgoals ≡ t ∷ others → ComesTo t (Long S) → Each (λ A. IsLongForm A A) others → Each IsLeftPair made.pairs
    → (rests : List Label) (result : Result Goal StepFault) → IsConcluded made.pairs (chain (S ∷ others) (protect made.statement)) rests result → IsOutcome (Becomes made) (λ all. all ≡ rests) result
first-outcome made t S others e f long pairs rests result h = made_outcome made (t ∷ []) (S ∷ []) others e (all_long f no_more) (come-long t S f, tt) long pairs rests result h

first-stops : (made : State) (t : Term) (others : List Term) (s : Stop) → made.subgoals ≡ t ∷ others → ComesTo t (Ends s) → Becomes made (Err (stop_fault s))
first-stops made t others s e f = halted (subst (λ (As : List Term). Come As (Halted s)) (sym e) (first_stops f))

pub start_answer : (C S marked : Term) → ComesTo C (Long S) → marked ≡ protect C → (result : Result Goal StepFault) → IsConcluded [] (chain (S ∷ []) marked) [] result → IsOutcome (BeginsAs C) (λ all. all ≡ []) result
start_answer C S marked f m result h =
    first-outcome (record { statement = C; subgoals = C ∷ []; pairs = [] }) C S [] refl f tt tt [] result (concluded-at [] [] (chain (S ∷ []) marked) (chain (S ∷ []) (protect C)) [] [] result refl (ap (chain (S ∷ [])) m) refl h)

start_steps : (C : Term) → ComesTo C (Ends sides.Steps) → BeginsAs C (Err Steps)
start_steps C f = first-stops (record { statement = C; subgoals = C ∷ []; pairs = [] }) C [] sides.Steps refl f

start_big : (C : Term) → ComesTo C (Ends sides.Big) → BeginsAs C (Err Big)
start_big C f = first-stops (record { statement = C; subgoals = C ∷ []; pairs = [] }) C [] sides.Big refl f

-- The goal's first subgoal is the equation's left side.
pub equated-first : (th equation : Theorem) (g : IsGoalTheorem th) (e : IsEquationFor th equation) → g.state.subgoals ≡ e.left ∷ e.others
equated-first th equation g e = (chain_once g.state.subgoals e.state.subgoals g.state.statement e.state.statement (sym g.is.prop ∙ e.is.prop)).0 ∙ e.stand

pub sides-same : (T U : Typ) (A B C D : Term) → eq T A B ≡ eq U C D → B ≡ D
sides-same T U A B C D e = cc

step-of : (th equation : Theorem) (g : IsGoalTheorem th) (e : IsEquationFor th equation) (outcome : Outcome) → Becomes (record g.state { subgoals = e.right ∷ e.others }) outcome → ConversionStep g.state equation outcome
step-of th equation g e outcome b = record { left = e.left; right = e.right; others = e.others; stand = equated-first th equation g e; equates = e.equates; becomes = b }

pub convert_answer : (th equation : Theorem) (g : IsGoalTheorem th) (e : IsEquationFor th equation) (T : Typ) (l r : Term) → equation.prop ≡ eq T l r → (S : Term) → ComesTo r (Long S)
    → (made : Term) → made ≡ chain (S ∷ e.others) (protect g.state.statement) → (rests : List Label) (R : List Label → Type 0) → R rests
    → (result : Result Goal StepFault) → IsConcluded th.pairs made rests result → IsStep (λ s. ConversionStep s equation) th R result
convert_answer th equation g e T l r is S comes made m rests R united result h =
    let right : r ≡ e.right = sides-same T prop l r e.left e.right (sym is ∙ e.equates) in
    let long = subst (λ (As : List Term). Each (λ A. IsLongForm A A) As) (equated-first th equation g e) g.goal.long_subgoals in
    let state : State = record g.state { subgoals = e.right ∷ e.others } in (
      g.state,
      g.is,
      g.goal,
      outcome_map (Becomes state) (ConversionStep g.state equation) (λ all. all ≡ rests) R
          (λ outcome b. step-of th equation g e outcome b) (λ all a. subst R (sym a) united) result
          (first-outcome state e.right S e.others refl (subst (λ (t : Term). ComesTo t (Long S)) right comes) long.1 g.goal.left_pairs rests result
          (concluded-at th.pairs g.state.pairs made (chain (S ∷ e.others) (protect g.state.statement)) rests rests result g.is.same_pairs m refl h)),
    )

stops-at : (th equation : Theorem) (g : IsGoalTheorem th) (e : IsEquationFor th equation) (T : Typ) (l r : Term) → equation.prop ≡ eq T l r → (s : Stop) → ComesTo r (Ends s) → ConversionStep g.state equation (Err (stop_fault s))
stops-at th equation g e T l r is s comes =
    step-of th equation g e (Err (stop_fault s))
    (first-stops (record g.state { subgoals = e.right ∷ e.others }) e.right e.others s refl (subst (λ (t : Term). ComesTo t (Ends s)) (sides-same T prop l r e.left e.right (sym is ∙ e.equates)) comes))

-- The right side has no long form.
pub convert_stopped : (th equation : Theorem) (g : IsGoalTheorem th) (e : IsEquationFor th equation) (T : Typ) (l r : Term) → equation.prop ≡ eq T l r → (R : List Label → Type 0) → (fault : StepFault) → IsLongSubgoal r (Err fault)
    → IsStep (λ s. ConversionStep s equation) th R (Err fault)
convert_stopped th equation g e T l r is R Steps h = (g.state, g.is, g.goal, stops-at th equation g e T l r is sides.Steps h)
convert_stopped th equation g e T l r is R Big h = (g.state, g.is, g.goal, stops-at th equation g e T l r is sides.Big h)
convert_stopped th equation g e T l r is R Memory h = (g.state, g.is, g.goal, tt)
convert_stopped th equation g e T l r is R UnknownFact h = absurd h
convert_stopped th equation g e T l r is R NoSubgoal h = absurd h
convert_stopped th equation g e T l r is R NoPremise h = absurd h
convert_stopped th equation g e T l r is R NotDefinition h = absurd h
convert_stopped th equation g e T l r is R NothingToUnfold h = absurd h
convert_stopped th equation g e T l r is R NoUnifier h = absurd h
convert_stopped th equation g e T l r is R SearchBound h = absurd h
convert_stopped th equation g e T l r is R NoHypothesis h = absurd h
convert_stopped th equation g e T l r is R SubgoalsLeft h = absurd h

pub start_stopped : (C : Term) (R : List Label → Type 0) (fault : StepFault) → IsLongSubgoal C (Err fault) → IsOutcome (BeginsAs C) R (Err fault)
start_stopped C R Steps h = start_steps C h
start_stopped C R Big h = start_big C h
start_stopped C R Memory h = tt
start_stopped C R UnknownFact h = absurd h
start_stopped C R NoSubgoal h = absurd h
start_stopped C R NoPremise h = absurd h
start_stopped C R NotDefinition h = absurd h
start_stopped C R NothingToUnfold h = absurd h
start_stopped C R NoUnifier h = absurd h
start_stopped C R SearchBound h = absurd h
start_stopped C R NoHypothesis h = absurd h
start_stopped C R SubgoalsLeft h = absurd h
