-- Steps by facts, from what the look-ups and the calls on goals answer.
use Rattle.std.proofs.Common.{◌≡◌, ◌↔◌, ℕ, List, [], ◌∷◌, ◌++◌, inl, inr, refl, sym, subst}
use Rattle.std.specs.Prelude.{Result, Ok, Err, IfOk}
use Rattle.pure_text.specs.Lists.{IsIn, Each, AnyOf, EachTwo}
use Rattle.pure_text.proofs.ListLaws.{in_split, in-append_left, in-append_right}
use Rattle.pure_definitions.specs.Names.{Label}
use Rattle.pure_logic.specs.Content.{Content}
use Rattle.pure_logic.specs.Derivable.{Theorem, IsDerivable}
use Rattle.pure_theorem.specs.Facts.{IsTheoryContent}
use Rattle.pure_theorem.specs.Sets.{label_cmp, IsLabelSet, IsSetOf}
use Rattle.pure_resolve.specs.GoalSteps.State.{State}
use Rattle.pure_resolve.specs.GoalSteps.Follows.{Outcome}
use Rattle.pure_resolve.specs.GoalSteps.declared.fault.StepFault.{StepFault}
use Rattle.pure_resolve.specs.GoalSteps.declared.fault.StepFault.TheVariants.{UnknownFact, NoSubgoal, NoPremise, NotDefinition, NothingToUnfold, NoUnifier, SearchBound, Steps, Big, NoHypothesis, SubgoalsLeft, Memory}
use Rattle.pure_resolve.specs.Goals.{IsGoalTheorem, IsOutcome, IsStep}
use Rattle.pure_resolve.specs.Uses.{MayStep, MayUse}
use Rattle.pure_resolve.specs.declared.state.Goal.{Goal}
use Rattle.pure_resolve.proofs.AnswerLaws.{outcome_map}
use Rattle.pure_grammar.specs.Theories.TheoryText.{Step}
use Rattle.pure_method.specs.Facts.{IsFoundIn, IsUnknownIn, MeansPromiseIn}
use Rattle.pure_method.specs.Unfolding.{all_rests}
use Rattle.pure_method.specs.Proof.{ByFactsOf, ByFactsIn, WithOne}
use Rattle.pure_method.specs.Running.{IsReady, GainsNamed, IsStepIn}
use Rattle.pure_method.specs.Taking.{IsFactAnswer, AreFactsAnswer, IsReadyFact}
use Rattle.pure_method.proofs.ReadyLaws.{ready-fact, rests-named}

-- A goal that a call answers may be stepped on.
pub begun : (Q : Content) (G : Outcome → Type 0) (R : List Label → Type 0) → IsTheoryContent Q → (result : Result Goal StepFault) → IsOutcome G R result → IfOk result (λ new. IsDerivable Q new.thm) → IfOk result (λ new. MayStep Q new.thm)
begun Q G R q (Ok new) (t, g, is, goal, r) d = record { content = q; is = record { state = t; is = is; goal = goal }; derivable = d }
begun Q G R q (Err fault) h d = tt

pub goes_on : (Q : Content) (G : State → Outcome → Type 0) (R : List Label → Type 0) (goal : Theorem) → IsTheoryContent Q → (result : Result Goal StepFault) → IsStep G goal R result → IfOk result (λ new. IsDerivable Q new.thm) → IfOk result (λ new. MayStep Q new.thm)
goes_on Q G R goal q result (s, is, kept, outcome) d = begun Q (G s) R q result outcome d

-- The same step with other words.
pub step_map : (G H : State → Outcome → Type 0) (R S : List Label → Type 0) (goal : Theorem) → ((s : State) (outcome : Outcome) → G s outcome → H s outcome) → ((rests : List Label) → R rests → S rests)
    → (result : Result Goal StepFault) → IsStep G goal R result → IsStep H goal S result
step_map G H R S goal f g result (s, is, kept, outcome) = (s, is, kept, outcome_map (G s) (H s) R S (f s) g result outcome)

pub may_use : (Q : Content) (goal fact : Theorem) → MayStep Q goal → IsReadyFact Q fact → MayUse Q goal fact
may_use Q goal fact step r = record { step = step; no_hyps = r.no_hyps; no_pairs = r.no_pairs; normal = r.normal; derivable = r.derivable }

module _ (texts : List (List ℕ)) (Q : Content) (r : IsReady texts Q) (lemma : ℕ) where
  -- A step without facts gains nothing.
  pub gains-nothing : (old rests : List Label) → IsLabelSet old → rests ≡ old → GainsNamed texts Q lemma [] old rests
  gains-nothing old rests h e = subst (λ (ls : List Label). GainsNamed texts Q lemma [] old ls) (sym e) (record { ascend = h; exactly = λ l. (λ m. inl m, λ m. elim m [ inl a ↦ a | inr n ↦ absurd n ]) })

  -- What facts rest on that are found is what their names mean.
  rests-all : (written : List (List ℕ)) (ths : List Theorem) → EachTwo (IsFoundIn texts Q lemma) written ths → (l : Label) → IsIn l (all_rests ths) ↔ AnyOf (MeansPromiseIn texts Q lemma l) written
  rests-all [] [] h l = (λ m. m, λ m. m)
  rests-all [] (th ∷ ths) h l = absurd h
  rests-all (w ∷ ws) [] h l = absurd h
  rests-all (w ∷ ws) (th ∷ ths) h l =
      let here = rests-named texts Q r lemma w th h.0 l in
      let rest = rests-all ws ths h.1 l in (
        λ m. elim (in_split l th.rests (all_rests ths) m) [ inl a ↦ inl (here.0 a) | inr b ↦ inr (rest.0 b) ],
        λ m. elim m [ inl a ↦ in-append_left l th.rests (all_rests ths) (here.1 a) | inr b ↦ in-append_right l th.rests (all_rests ths) (rest.1 b) ],
      )

  pub gains-all : (written : List (List ℕ)) (ths : List Theorem) → EachTwo (IsFoundIn texts Q lemma) written ths → (old rests : List Label) → IsSetOf label_cmp (old ++ all_rests ths) rests → GainsNamed texts Q lemma written old rests
  gains-all written ths h old rests is = record {
    ascend = is.ascends;
    exactly = λ l. (
      λ m. elim (in_split l old (all_rests ths) ((is.members l).0 m)) [ inl a ↦ inl a | inr b ↦ inr ((rests-all written ths h l).0 b) ],
      λ m. (is.members l).1 (elim m [ inl a ↦ in-append_left l old (all_rests ths) a | inr b ↦ in-append_right l old (all_rests ths) ((rests-all written ths h l).1 b) ]),
    );
  }

  nothing-behind : (old rests : List Label) (th : Theorem) → IsSetOf label_cmp (old ++ th.rests) rests → IsSetOf label_cmp (old ++ all_rests (th ∷ [])) rests
  nothing-behind old rests th is = record {
    ascends = is.ascends;
    members = λ l. (
      λ m. elim (in_split l old th.rests ((is.members l).0 m)) [ inl a ↦ in-append_left l old (all_rests (th ∷ [])) a | inr b ↦ in-append_right l old (all_rests (th ∷ [])) (in-append_left l th.rests [] b) ],
      λ m. (is.members l).1 (elim (in_split l old (all_rests (th ∷ [])) m) [
        | inl a ↦ in-append_left l old th.rests a
        | inr b ↦ elim (in_split l th.rests [] b) [ inl c ↦ in-append_right l old th.rests c | inr n ↦ absurd n ]
      ]),
    );
  }

  -- A step by a fact that is found, from the call with it.
  pub by_fact : (With : State → Theorem → Outcome → Type 0) (goal fact : Theorem) (written : List ℕ) → IsFoundIn texts Q lemma written fact → (result : Result Goal StepFault)
      → IsStep (λ s. With s fact) goal (IsSetOf label_cmp (goal.rests ++ fact.rests)) result
      → IsStep (λ s. ByFactsIn texts Q lemma (WithOne (With s)) (written ∷ [])) goal (GainsNamed texts Q lemma (written ∷ []) goal.rests) result
  by_fact With goal fact written found result step =
      step_map (λ s. With s fact) (λ s. ByFactsIn texts Q lemma (WithOne (With s)) (written ∷ [])) (IsSetOf label_cmp (goal.rests ++ fact.rests)) (GainsNamed texts Q lemma (written ∷ []) goal.rests) goal
      (λ s outcome h. ByFactsOf.known {facts = fact ∷ []} (found, tt) (fact, refl, h))
      (λ rests is. gains-all (written ∷ []) (fact ∷ []) (found, tt) goal.rests rests (nothing-behind goal.rests rests fact is)) result step

  -- The same of a step by several facts.
  pub by_facts : (With : State → List Theorem → Outcome → Type 0) (goal : Theorem) (facts : List Theorem) (written : List (List ℕ)) → EachTwo (IsFoundIn texts Q lemma) written facts → (result : Result Goal StepFault)
      → IsStep (λ s. With s facts) goal (IsSetOf label_cmp (goal.rests ++ all_rests facts)) result
      → IsStep (λ s. ByFactsIn texts Q lemma (With s) written) goal (GainsNamed texts Q lemma written goal.rests) result
  by_facts With goal facts written found result step =
      step_map (λ s. With s facts) (λ s. ByFactsIn texts Q lemma (With s) written) (IsSetOf label_cmp (goal.rests ++ all_rests facts)) (GainsNamed texts Q lemma written goal.rests) goal
      (λ s outcome h. ByFactsOf.known {facts = facts} found h)
      (λ rests is. gains-all written facts found goal.rests rests is) result step

  pub all-ready : (written : List (List ℕ)) (facts : List Theorem) → EachTwo (IsFoundIn texts Q lemma) written facts → Each (IsReadyFact Q) facts
  all-ready [] [] h = tt
  all-ready [] (th ∷ ths) h = absurd h
  all-ready (w ∷ ws) [] h = absurd h
  all-ready (w ∷ ws) (th ∷ ths) h = (ready-fact texts Q r lemma w th h.0, all-ready ws ths h.1)

-- A step whose facts aren't found.
pub facts_fault : (texts : List (List ℕ)) (Q : Content) (lemma : ℕ) (With : State → List Theorem → Outcome → Type 0) (R : List Label → Type 0) (goal : Theorem) → IsGoalTheorem goal → (written : List (List ℕ)) (fault : StepFault) → AreFactsAnswer texts Q lemma written (Err fault)
    → IsStep (λ s. ByFactsIn texts Q lemma (With s) written) goal R (Err fault)
facts_fault texts Q lemma With R goal g written UnknownFact h = (g.state, g.is, g.goal, ByFactsOf.unknown h)
facts_fault texts Q lemma With R goal g written Memory h = (g.state, g.is, g.goal, tt)
facts_fault texts Q lemma With R goal g written NoSubgoal h = absurd h
facts_fault texts Q lemma With R goal g written NoPremise h = absurd h
facts_fault texts Q lemma With R goal g written NotDefinition h = absurd h
facts_fault texts Q lemma With R goal g written NothingToUnfold h = absurd h
facts_fault texts Q lemma With R goal g written NoUnifier h = absurd h
facts_fault texts Q lemma With R goal g written SearchBound h = absurd h
facts_fault texts Q lemma With R goal g written Steps h = absurd h
facts_fault texts Q lemma With R goal g written Big h = absurd h
facts_fault texts Q lemma With R goal g written NoHypothesis h = absurd h
facts_fault texts Q lemma With R goal g written SubgoalsLeft h = absurd h

pub one_of : (texts : List (List ℕ)) (Q : Content) (lemma : ℕ) (written : List ℕ) (fault : StepFault) → IsFactAnswer texts Q lemma written (Err fault) → AreFactsAnswer texts Q lemma (written ∷ []) (Err fault)
one_of texts Q lemma written UnknownFact h = inl h
one_of texts Q lemma written Memory h = tt
one_of texts Q lemma written NoSubgoal h = absurd h
one_of texts Q lemma written NoPremise h = absurd h
one_of texts Q lemma written NotDefinition h = absurd h
one_of texts Q lemma written NothingToUnfold h = absurd h
one_of texts Q lemma written NoUnifier h = absurd h
one_of texts Q lemma written SearchBound h = absurd h
one_of texts Q lemma written Steps h = absurd h
one_of texts Q lemma written Big h = absurd h
one_of texts Q lemma written NoHypothesis h = absurd h
one_of texts Q lemma written SubgoalsLeft h = absurd h

-- A fact that isn't found among several.
pub several : (texts : List (List ℕ)) (Q : Content) (lemma : ℕ) (written : List (List ℕ)) (w : List ℕ) → IsIn w written → (fault : StepFault) → IsFactAnswer texts Q lemma w (Err fault) → AreFactsAnswer texts Q lemma written (Err fault)
several texts Q lemma written w m UnknownFact h = any_in written m h
  where
    any_in : (ws : List (List ℕ)) → IsIn w ws → IsUnknownIn texts Q lemma w → AnyOf (IsUnknownIn texts Q lemma) ws
    any_in [] m h = absurd m
    any_in (v ∷ vs) (inl e) h = inl (subst (λ (x : List ℕ). IsUnknownIn texts Q lemma x) e h)
    any_in (v ∷ vs) (inr m) h = inr (any_in vs m h)
several texts Q lemma written w m Memory h = tt
several texts Q lemma written w m NoSubgoal h = absurd h
several texts Q lemma written w m NoPremise h = absurd h
several texts Q lemma written w m NotDefinition h = absurd h
several texts Q lemma written w m NothingToUnfold h = absurd h
several texts Q lemma written w m NoUnifier h = absurd h
several texts Q lemma written w m SearchBound h = absurd h
several texts Q lemma written w m Steps h = absurd h
several texts Q lemma written w m Big h = absurd h
several texts Q lemma written w m NoHypothesis h = absurd h
several texts Q lemma written w m SubgoalsLeft h = absurd h

-- A step as the program holds it.
pub step-as : (texts : List (List ℕ)) (Q : Content) (lemma : ℕ) (goal : Theorem) (seen other : Step) → other ≡ seen → (result : Result Goal StepFault) → IsStepIn texts Q lemma seen goal result → IsStepIn texts Q lemma other goal result
step-as texts Q lemma goal seen other e result h = subst (λ (step : Step). IsStepIn texts Q lemma step goal result) (sym e) h

-- A step without facts.
pub kept-step : (texts : List (List ℕ)) (Q : Content) → IsReady texts Q → (lemma : ℕ) (G : State → Outcome → Type 0) (goal : Theorem) → IsLabelSet goal.rests → (result : Result Goal StepFault) → IsStep G goal (λ rests. rests ≡ goal.rests) result
    → IsStep G goal (GainsNamed texts Q lemma [] goal.rests) result
kept-step texts Q r lemma G goal set result h = step_map G G (λ rests. rests ≡ goal.rests) (GainsNamed texts Q lemma [] goal.rests) goal (λ s outcome g. g) (λ rests e. gains-nothing texts Q r lemma goal.rests rests set e) result h
