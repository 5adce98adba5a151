-- What calls on goals answer, from what the goal's parts conclude.
use Rattle.std.proofs.Common.{◌≡◌, List, ◌++◌, Result, Ok, Err, IfOk, ap, sym, subst}
use Rattle.pure_text.specs.Lists.{Each}
use Rattle.pure_text.proofs.ListLaws.{each-append, each_imply}
use Rattle.pure_definitions.specs.Names.{Label}
use Rattle.pure_definitions.specs.Terms.Term.{Term}
use Rattle.pure_definitions.specs.Reduction.Eta.{IsLongForm}
use Rattle.pure_logic.specs.Connectives.{protect, chain}
use Rattle.pure_logic.specs.Content.{Content}
use Rattle.pure_logic.specs.Derivable.{Pair, Theorem, IsDerivable}
use Rattle.pure_goal_steps.specs.State.{State, theorem_of, IsTheoremOf, IsLeftPair}
use Rattle.pure_goal_steps.specs.Follows.{Outcome, AllLong, Come, Becomes}
use Rattle.pure_goal_steps.specs.Derivability.{IsSound}
use Rattle.pure_goal_steps.specs.declared.fault.StepFault.{StepFault}
use Rattle.pure_goal_steps.specs.declared.fault.StepFault.TheVariants.{UnknownFact, NoSubgoal, NoPremise, NotDefinition, NothingToUnfold, NoUnifier, SearchBound, Steps, Big, NoHypothesis, SubgoalsLeft, Memory}
use Rattle.pure_goal_steps.proofs.MeasuredLaws.{decided_by_measure}
use Rattle.pure_resolve.specs.Goals.{IsOutcome, IsStep, IsLeftTyped, IsConcluded}
use Rattle.pure_resolve.specs.declared.state.Goal.{Goal}

pub left-typed : (ps : List Pair) → Each IsLeftPair ps → Each IsLeftTyped ps
left-typed ps h = each_imply IsLeftPair IsLeftTyped ps (λ p l. (l.typ, l.left_typed)) h

theorem-parts : (s : State) (th : Theorem) (rests : List Label) → th ≡ theorem_of s rests → IsTheoremOf s th × (th.rests ≡ rests)
theorem-parts s th rests e = (record { hyps = ap (λ (t : Theorem). t.hyps) e; same_pairs = ap (λ (t : Theorem). t.pairs) e; prop = ap (λ (t : Theorem). t.prop) e }, ap (λ (t : Theorem). t.rests) e)

-- A state whose new subgoals are brought to long form, and whose others are so, is concluded.
pub made_outcome : (made : State) (front Fs others : List Term) → made.subgoals ≡ front ++ others → Come front (AllLong Fs) → Each (λ A. IsLongForm A A) Fs → Each (λ A. IsLongForm A A) others → Each IsLeftPair made.pairs
    → (rests : List Label) (result : Result Goal StepFault) → IsConcluded made.pairs (chain (Fs ++ others) (protect made.statement)) rests result → IsOutcome (Becomes made) (λ all. all ≡ rests) result
made_outcome made front Fs others e f new long pairs rests (Ok goal) (is, (q, one, w)) =
    let s : State = record made { subgoals = Fs ++ others } in
    let parts = theorem-parts s goal.thm rests is in
    (s, (decided_by_measure made front Fs others e f long q one).reached w, parts.0, record { long_subgoals = each-append (λ A. IsLongForm A A) Fs others new long; left_pairs = pairs }, parts.1)
made_outcome made front Fs others e f new long pairs rests (Err Big) (q, one, w) = (decided_by_measure made front Fs others e f long q one).too_large w
made_outcome made front Fs others e f new long pairs rests (Err Memory) h = tt
made_outcome made front Fs others e f new long pairs rests (Err UnknownFact) h = absurd h
made_outcome made front Fs others e f new long pairs rests (Err NoSubgoal) h = absurd h
made_outcome made front Fs others e f new long pairs rests (Err NoPremise) h = absurd h
made_outcome made front Fs others e f new long pairs rests (Err NotDefinition) h = absurd h
made_outcome made front Fs others e f new long pairs rests (Err NothingToUnfold) h = absurd h
made_outcome made front Fs others e f new long pairs rests (Err NoUnifier) h = absurd h
made_outcome made front Fs others e f new long pairs rests (Err SearchBound) h = absurd h
made_outcome made front Fs others e f new long pairs rests (Err Steps) h = absurd h
made_outcome made front Fs others e f new long pairs rests (Err NoHypothesis) h = absurd h
made_outcome made front Fs others e f new long pairs rests (Err SubgoalsLeft) h = absurd h

-- Another relation to outcomes, and another to promises.
pub outcome_map : (G H : Outcome → Type 0) (R S : List Label → Type 0) → ((outcome : Outcome) → G outcome → H outcome) → ((rests : List Label) → R rests → S rests)
    → (result : Result Goal StepFault) → IsOutcome G R result → IsOutcome H S result
outcome_map G H R S f g (Ok goal) (s, h, is, kept, r) = (s, f (Ok s) h, is, kept, g goal.thm.rests r)
outcome_map G H R S f g (Err Memory) h = tt
outcome_map G H R S f g (Err Big) h = f (Err Big) h
outcome_map G H R S f g (Err UnknownFact) h = f (Err UnknownFact) h
outcome_map G H R S f g (Err NoSubgoal) h = f (Err NoSubgoal) h
outcome_map G H R S f g (Err NoPremise) h = f (Err NoPremise) h
outcome_map G H R S f g (Err NotDefinition) h = f (Err NotDefinition) h
outcome_map G H R S f g (Err NothingToUnfold) h = f (Err NothingToUnfold) h
outcome_map G H R S f g (Err NoUnifier) h = f (Err NoUnifier) h
outcome_map G H R S f g (Err SearchBound) h = f (Err SearchBound) h
outcome_map G H R S f g (Err Steps) h = f (Err Steps) h
outcome_map G H R S f g (Err NoHypothesis) h = f (Err NoHypothesis) h
outcome_map G H R S f g (Err SubgoalsLeft) h = f (Err SubgoalsLeft) h

pub theorem-same : (s : State) (th : Theorem) → IsTheoremOf s th → theorem_of s th.rests ≡ th
theorem-same s th is = λ i. record { hyps = sym is.hyps i; pairs = sym is.same_pairs i; prop = sym is.prop i; rests = th.rests }

-- A sound outcome is derivable.
pub outcome_derivable : (Q : Content) (G : Outcome → Type 0) (R : List Label → Type 0) → ((s : State) (rests : List Label) → G (Ok s) → R rests → IsSound Q rests s)
    → (result : Result Goal StepFault) → IsOutcome G R result → IfOk result (λ goal. IsDerivable Q goal.thm)
outcome_derivable Q G R f (Ok goal) (s, h, is, kept, r) = subst (IsDerivable Q) (theorem-same s goal.thm is) (f s goal.thm.rests h r).derivable
outcome_derivable Q G R f (Err fault) h = tt

-- So is the outcome of a step from a derivable goal.
pub step_derivable : (Q : Content) (G : State → Outcome → Type 0) (R : List Label → Type 0) (th : Theorem) → ((s t : State) (rests : List Label) → IsSound Q th.rests s → G s (Ok t) → R rests → IsSound Q rests t)
    → (result : Result Goal StepFault) → IsStep G th R result → IsDerivable Q th → IfOk result (λ goal. IsDerivable Q goal.thm)
step_derivable Q G R th f result (s, is, kept, outcome) d =
    let sound : IsSound Q th.rests s = record { goal = kept; derivable = subst (IsDerivable Q) (sym (theorem-same s th is)) d } in
    outcome_derivable Q (G s) R (λ t rests g r. f s t rests sound g r) result outcome
