-- One step of a run: the state on which it is made, and the one to which it leads, or the end.
use Rattle.std.proofs.Common.{◌≡◌, ◌≢◌, ℕ, ◌+◌, List, [], ◌∷◌, drop, ap, sym, subst, ◌∙◌}
use Rattle.std.specs.Prelude.{Ok, Err}
use Rattle.pure_grammar.specs.Theories.TheoryText.{Step, Close, Done}
use Rattle.pure_logic.specs.Derivable.{Theorem}
use Rattle.pure_declare.specs.Notes.{Fork}
use Rattle.pure_resolve.specs.GoalSteps.declared.fault.StepFault.{StepFault}
use Rattle.pure_resolve.specs.GoalSteps.declared.fault.StepFault.TheVariants.{Memory}
use Rattle.pure_resolve.specs.Ending.{IsEnd}
use Rattle.pure_method.specs.Facts.{named_facts}
use Rattle.pure_method.specs.Proof as proof
use Rattle.pure_method.specs.Proof.{GivesIn, Ending, Failed}
use Rattle.pure_method.specs.Course.{LeadsBy, StopsBy, StopsIn}
use Rattle.pure_method.specs.Closing.{IsClosed}
use Rattle.pure_method.specs.Running.{GainsNamed, IsStepIn, HasCome, IsFurther, StopsSo}
use Rattle.pure_method.specs.declared.run.Run.{Run}
use Rattle.pure_method.specs.declared.outcome.Outcome.TheVariants.{Proved, Fault}
use Rattle.pure_method.proofs.RunLaws.{numbered, script-end, step-fault, end-fault}
use Rattle.pure_method.proofs.CourseLaws.{behind-numbered}

module _ (texts : List (List ℕ)) (f : Fork) (run : Run) (step : Step) (left : drop run.at f.script ≡ step ∷ drop (run.at + 1) f.script) where
  -- The step closes subgoals.
  pub closed-further : step ≡ Close → (new : Run) → IsClosed f.content run.goal.thm new.goal.thm → new.at ≡ run.at + 1 → new.number ≡ run.number → IsFurther texts f run new
  closed-further e new k at number = record {
    step = Close;
    steps = drop (run.at + 1) f.script;
    left = subst (λ (x : Step). drop run.at f.script ≡ x ∷ drop (run.at + 1) f.script) e left;
    behind = ap (λ n. drop n f.script) at;
    number = number;
    before = k.before;
    is_before = k.is_before;
    after = k.after;
    is_after = k.is_after;
    leads = LeadsBy.closes k.closes;
  }

  -- The step has a number, and goes on.
  pub given-further : step ≢ Close → (new : Run) → IsStepIn texts f.content f.lemma step run.goal.thm (Ok new.goal)
      → new.at ≡ run.at + 1 → new.number ≡ run.number + 1 → IsFurther texts f run new
  given-further other new (s, is, kept, (t, gives, after, long, gains)) at number = record {
    step = step;
    steps = drop (run.at + 1) f.script;
    left = left;
    behind = ap (λ n. drop n f.script) at;
    number = number ∙ sym (behind-numbered run.number step (numbered step other));
    before = s;
    is_before = is;
    after = t;
    is_after = after;
    leads = LeadsBy.gives gives;
  }

  -- The step is refused.
  pub refused-stops : (fault : StepFault) → (fault ≡ Memory → ⊥) → IsStepIn texts f.content f.lemma step run.goal.thm (Err fault) → StopsSo texts f run (Fault run.number fault)
  refused-stops fault n h =
      let found = step-fault (λ s. GivesIn texts f.content f.lemma step s) (GainsNamed texts f.content f.lemma (named_facts step) run.goal.thm.rests) run.goal.thm fault n h in
      let end : Ending = Failed (record { step = run.number; fault = fault }) in
      (found.0, found.1, subst (λ (xs : List Step). StopsIn texts f.content f.lemma run.number found.0 xs end) (sym left) (StopsBy.refused found.2))

  module _ (come : HasCome texts f run.goal.thm run.number (drop run.at f.script)) (is_end : step ≡ Done) where
    done-left : drop run.at f.script ≡ Done ∷ []
    done-left =
        let here : HasCome texts f run.goal.thm run.number (step ∷ drop (run.at + 1) f.script) = subst (HasCome texts f run.goal.thm run.number) left come in
        left ∙ (λ i. is_end i ∷ script-end step (drop (run.at + 1) f.script) is_end here.script i)

    -- The end proves the statement,
    pub done-stops : (th : Theorem) → IsEnd run.goal.thm (Ok th) → (c : _) → StopsSo texts f run (Proved c)
    done-stops th (s, is, ends, rests) c = (s, is, subst (λ (xs : List Step). StopsIn texts f.content f.lemma run.number s xs proof.Proved) (sym done-left) (StopsBy.finished ends))

    -- or is refused.
    pub unfinished-stops : (fault : StepFault) → (fault ≡ Memory → ⊥) → IsEnd run.goal.thm (Err fault) → StopsSo texts f run (Fault run.number fault)
    unfinished-stops fault n h =
        let found = end-fault run.goal.thm fault n h in
        let end : Ending = Failed (record { step = run.number; fault = fault }) in
        (found.0, found.1, subst (λ (xs : List Step). StopsIn texts f.content f.lemma run.number found.0 xs end) (sym done-left) (StopsBy.unfinished found.2))
