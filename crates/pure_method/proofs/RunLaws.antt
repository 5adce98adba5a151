-- How far a proof has come: at its beginning, after each step, and at its end.
use Rattle.std.proofs.Common.{◌≡◌, ◌≢◌, ◌⊎◌, ◌↔◌, ℕ, zero, suc, ◌+◌, ◌<◌, List, [], ◌∷◌, length, drop, true, false, count_by, inl, inr, refl, ap, sym, subst, ◌∙◌, arith}
use Rattle.std.proofs.lemmas.List.Sums.{sum_by-cons}
use Rattle.std.specs.Prelude.{Result, Ok, Err, IfOk}
use Rattle.pure_text.specs.Lists.{IsIn, AnyOf}
use Rattle.pure_definitions.specs.Names.{Label}
use Rattle.pure_definitions.specs.Terms.Term.{Term}
use Rattle.pure_grammar.specs.Theories.TheoryText.{Step, Rule, Erule, Drule, Assumption, Unfold, Prefer, Defer, Close, Done}
use Rattle.pure_logic.specs.Content.{Content}
use Rattle.pure_logic.specs.Derivable.{Theorem, IsDerivable}
use Rattle.pure_logic.specs.Laws.Maps as maps
use Rattle.pure_logic.specs.Laws.Maps.{everything}
use Rattle.pure_theorem.specs.Sets.{IsLabelSet}
use Rattle.pure_theorem.proofs.SetLaws.{no_labels}
use Rattle.pure_statements.proofs.JoinLaws.{schematic-is_generalised}
use Rattle.pure_declare.specs.Notes.{Fork}
use Rattle.pure_resolve.specs.GoalSteps.State.{State, IsTheoremOf}
use Rattle.pure_resolve.specs.GoalSteps.Follows.{Outcome}
use Rattle.pure_resolve.specs.GoalSteps.Steps.{BeginsAs, EndsAs}
use Rattle.pure_resolve.specs.GoalSteps.declared.fault.StepFault.{StepFault}
use Rattle.pure_resolve.specs.GoalSteps.declared.fault.StepFault.TheVariants.{UnknownFact, NoSubgoal, NoPremise, NotDefinition, NothingToUnfold, NoUnifier, SearchBound, Steps, Big, NoHypothesis, SubgoalsLeft, Memory}
use Rattle.pure_unify_laws.specs.Condition.{IsUnifyContent}
use Rattle.pure_resolve.specs.Goals.{IsOutcome, IsStep}
use Rattle.pure_resolve.specs.Ending.{IsEnd}
use Rattle.pure_resolve.specs.Uses.{MayStep}
use Rattle.pure_resolve.specs.declared.state.Goal.{Goal}
use Rattle.pure_resolve.proofs.ChainLaws.{chain_once}
use Rattle.pure_method.specs.Facts.{theorem, named_facts, MeansPromiseIn, IsNamedIn}
use Rattle.pure_method.specs.Proof.{GivesIn, Ending, Proved, Failed, EndsBy, EndsIn, IsProofBy, IsProofIn}
use Rattle.pure_method.specs.Outcomes.{IsScript}
use Rattle.pure_method.specs.Outcome.{is_numbered, IsProvable, IsOutcomeOf}
use Rattle.pure_method.specs.Running.{GainsNamed, IsStepIn, EndsWhole, HasCome, StopsSo}
use Rattle.pure_method.specs.declared.run.Run.{Run}
use Rattle.pure_method.specs.Closing.{IsClosed}
use Rattle.pure_method.specs.declared.outcome.Outcome as code
use Rattle.pure_method.specs.declared.outcome.Outcome.TheVariants as outcome
use Rattle.pure_method.proofs.ReadyLaws.{no-schematic}
use Rattle.pure_method.proofs.SoundLaws.{proved_in-derivable}

-- A theorem is that of one state.
pub state-once : (s t : State) (th : Theorem) → IsTheoremOf s th → IsTheoremOf t th → s ≡ t
state-once s t th h k =
    let parts = chain_once s.subgoals t.subgoals s.statement t.statement (sym h.prop ∙ k.prop) in
    let pairs : s.pairs ≡ t.pairs = sym h.same_pairs ∙ k.same_pairs in
    λ i. record { statement = parts.1 i; subgoals = parts.0 i; pairs = pairs i }

-- Where the count of numbered steps is at most 1000, so it is of those that are left.
count-numbered : (step : Step) (steps : List Step) → is_numbered step ≡ true → count_by is_numbered (step ∷ steps) ≡ 1 + count_by is_numbered steps
count-numbered step steps e = rw (sum_by-cons _ step steps, e) refl

count-other : (step : Step) (steps : List Step) → is_numbered step ≡ false → count_by is_numbered (step ∷ steps) ≡ count_by is_numbered steps
count-other step steps e = rw (sum_by-cons _ step steps, e) (omega arith)

pub numbered : (step : Step) → step ≢ Close → is_numbered step ≡ true
numbered (Rule fact) n = refl
numbered (Erule fact) n = refl
numbered (Drule fact) n = refl
numbered Assumption n = refl
numbered (Unfold facts) n = refl
numbered (Prefer k) n = refl
numbered Defer n = refl
numbered Close n = absurd (n refl)
numbered Done n = refl

-- The script behind a step that isn't the end.
script-behind : (step : Step) (steps : List Step) → step ≢ Done → IsScript (step ∷ steps) → IsScript steps
script-behind step steps n (IsScript.ends_here) = absurd (n refl)
script-behind step steps n (IsScript.goes_further d rest) = rest

pub script-end : (step : Step) (steps : List Step) → step ≡ Done → IsScript (step ∷ steps) → steps ≡ []
script-end step steps e (IsScript.ends_here) = refl
script-end step steps e (IsScript.goes_further d rest) = absurd (d e)

no-script : IsScript [] → ⊥
no-script h = elim h [ ]

-- A step is left.
pub some-left : (script : List Step) (at : ℕ) → IsScript (drop at script) → at < length script
some-left script at h = by script at h
  where
    by : (script : List Step) (at : ℕ) → IsScript (drop at script) → at < length script
    by [] zero h = absurd (no-script h)
    by [] (suc at) h = absurd (no-script h)
    by (step ∷ steps) zero h = omega arith
    by (step ∷ steps) (suc at) h = let rest = by steps at h in omega (arith, rest)

module _ (texts : List (List ℕ)) (f : Fork) where
  abbrev Q : Content
  Q = f.content

  abbrev lemma : ℕ
  lemma = f.lemma

  -- The proof begins.
  pub come-first : IsProvable texts f → (goal : Theorem) (s : State) → BeginsAs f.fixed (Ok s) → IsTheoremOf s goal → MayStep Q goal → goal.rests ≡ [] → HasCome texts f goal 1 f.script
  come-first p goal s begins is may none = record {
    may = may;
    ends = λ t h end e. record { first = s; begins = begins; ends = subst (λ (u : State). EndsIn texts Q lemma 1 u f.script end) (state-once t s goal h is) e };
    ascend = subst IsLabelSet (sym none) no_labels;
    named = λ l. (λ m. inr m, λ m. elim m [ inl a ↦ absurd (subst (λ (ls : List Label). IsIn l ls) none a) | inr b ↦ b ]);
    script = p.script;
    few = let few = p.few in omega (arith, few);
  }

  -- The promises that steps name: those of the first and of the others.
  gained : (written : List (List ℕ)) (step : Step) (steps : List Step) (old new : List Label) → named_facts step ≡ written → GainsNamed texts Q lemma written old new → (l : Label)
      → IsNamedIn texts Q lemma f.script l ↔ (IsIn l old ⊎ IsNamedIn texts Q lemma (step ∷ steps) l) → IsNamedIn texts Q lemma f.script l ↔ (IsIn l new ⊎ IsNamedIn texts Q lemma steps l)
  gained written step steps old new e g l before =
      let names : AnyOf (MeansPromiseIn texts Q lemma l) (named_facts step) ≡ AnyOf (MeansPromiseIn texts Q lemma l) written = ap (AnyOf (MeansPromiseIn texts Q lemma l)) e in (
        λ m. elim (before.0 m) [
          | inl a ↦ inl ((g.exactly l).1 (inl a))
          | inr b ↦ elim b [ inl here ↦ inl ((g.exactly l).1 (inr (subst (AnyOf (MeansPromiseIn texts Q lemma l)) e here))) | inr later ↦ inr later ]
        ],
        λ m. before.1 (elim m [
          | inl a ↦ elim ((g.exactly l).0 a) [ inl o ↦ inl o | inr here ↦ inr (inl (subst (AnyOf (MeansPromiseIn texts Q lemma l)) (sym e) here)) ]
          | inr later ↦ inr (inr later)
        ]),
      )

  module _ (goal : Theorem) (number : ℕ) (step : Step) (steps : List Step) (c : HasCome texts f goal number (step ∷ steps)) where
    -- The step fails, and so does the proof.
    pub come-failed : (s : State) → IsTheoremOf s goal → (fault : StepFault) → GivesIn texts Q lemma step s (Err fault) → IsProofIn texts Q lemma f.fixed f.script (Err (record { step = number; fault = fault }))
    come-failed s is fault gives =
        let whole = c.ends s is (Failed (record { step = number; fault = fault })) (EndsBy.refused gives) in
        IsProofBy.failed whole.begins whole.ends

    -- A step that has a number goes on.
    pub come-further : step ≢ Close → step ≢ Done → (s : State) → IsTheoremOf s goal → (new : Theorem) (t : State) → GivesIn texts Q lemma step s (Ok t) → IsTheoremOf t new → MayStep Q new → GainsNamed texts Q lemma (named_facts step) goal.rests new.rests
        → HasCome texts f new (number + 1) steps
    come-further no_close no_end s is new t gives after may gains = record {
      may = may;
      ends = λ u h end e. c.ends s is end (EndsBy.goes_on gives (subst (λ (v : State). EndsIn texts Q lemma (number + 1) v steps end) (state-once u t new h after) e));
      ascend = gains.ascend;
      named = λ l. gained (named_facts step) step steps goal.rests new.rests refl gains l (c.named l);
      script = script-behind step steps no_end c.script;
      few = let few = c.few in let count = count-numbered step steps (numbered step no_close) in omega (arith, few, count);
    }

    -- Subgoals are closed.
    pub come-closed : step ≡ Close → (new : Theorem) → IsClosed Q goal new → HasCome texts f new number steps
    come-closed e new k = record {
      may = k.may;
      ends = λ u h end rest. c.ends k.before k.is_before end (subst (λ (x : Step). EndsIn texts Q lemma number k.before (x ∷ steps) end) (sym e) (EndsBy.closed k.closes (subst (λ (v : State). EndsIn texts Q lemma number v steps end) (state-once u k.after new h k.is_after) rest)));
      ascend = subst IsLabelSet (sym k.rests) c.ascend;
      named = λ l. gained [] step steps goal.rests new.rests (ap named_facts e) (record { ascend = subst IsLabelSet (sym k.rests) c.ascend; exactly = λ m. same m }) l (c.named l);
      script = script-behind step steps (λ d. let no : Close ≡ Done = sym e ∙ d in close-no_end no) c.script;
      few = let few = c.few in let count = count-other step steps (ap is_numbered e) in omega (arith, few, count);
    }
      where
        close-no_end : Close ≡ Done → ⊥
        close-no_end d = cc

        same : (l : Label) → IsIn l new.rests ↔ (IsIn l goal.rests ⊎ ⊥)
        same l = (λ m. inl (subst (λ (ls : List Label). IsIn l ls) k.rests m), λ m. elim m [ inl a ↦ subst (λ (ls : List Label). IsIn l ls) (sym k.rests) a | inr n ↦ absurd n ])

    module _ (end : step ≡ Done) where
      at-end : (s : State) → IsTheoremOf s goal → (ending : Ending) → EndsIn texts Q lemma number s (Done ∷ []) ending → EndsWhole texts f ending
      at-end s is ending e =
          c.ends s is ending (subst (λ (xs : List Step). EndsIn texts Q lemma number s xs ending) (λ i. sym end i ∷ sym (script-end step steps end c.script) i) e)

      -- The end fails.
      pub come-unfinished : (s : State) → IsTheoremOf s goal → (fault : StepFault) → EndsAs s (Err fault) → IsProofIn texts Q lemma f.fixed f.script (Err (record { step = number; fault = fault }))
      come-unfinished s is fault e =
          let whole = at-end s is (Failed (record { step = number; fault = fault })) (EndsBy.unfinished e) in
          IsProofBy.failed whole.begins whole.ends

      nothing-named : (l : Label) → IsNamedIn texts Q lemma (step ∷ steps) l → ⊥
      nothing-named l m = by (subst (λ (xs : List Step). IsNamedIn texts Q lemma xs l) (λ i. end i ∷ script-end step steps end c.script i) m)
        where
          by : IsNamedIn texts Q lemma (Done ∷ []) l → ⊥
          by (inl n) = n
          by (inr n) = n

      -- The statement is proved, and rests on what the goal rests on.
      pub come-proved : (s : State) → IsTheoremOf s goal → (th : Theorem) → EndsAs s (Ok th) → (rests : List Label) → rests ≡ goal.rests → IsProofIn texts Q lemma f.fixed f.script (Ok rests)
      come-proved s is th e rests same =
          let whole = at-end s is Proved (EndsBy.finished e) in
          IsProofBy.proved whole.begins whole.ends (record {
            ascend = subst IsLabelSet (sym same) c.ascend;
            exactly = λ l. (
              λ m. (c.named l).1 (inl (subst (λ (ls : List Label). IsIn l ls) same m)),
              λ m. subst (λ (ls : List Label). IsIn l ls) (sym same) (elim ((c.named l).0 m) [ inl a ↦ a | inr n ↦ absurd (nothing-named l n) ]),
            );
          })

  -- What is proved is the lemma's theorem, derivable.
  pub lemma-derivable : IsUnifyContent Q → IsProvable texts f → (labels : List Label) → IsProofIn texts Q lemma f.fixed f.script (Ok labels) → IsDerivable Q (theorem f.prop labels)
  lemma-derivable k p labels proof =
      let same : f.prop ≡ maps.generalised (everything 0) f.fixed = p.statement.prop ∙ schematic-is_generalised f.fixed in
      subst (λ (A : Term). IsDerivable Q (theorem A labels)) (sym same) (proved_in-derivable texts Q k lemma f.fixed p.proposition (no-schematic f.fixed p.statement.fixed) f.script labels proof)

-- What a fault that isn't want of memory says of the step.
pub step-fault : (G : State → Outcome → Type 0) (R : List Label → Type 0) (goal : Theorem) (fault : StepFault) → (fault ≡ Memory → ⊥) → IsStep G goal R (Err fault) → (s : State) × IsTheoremOf s goal × G s (Err fault)
step-fault G R goal Memory n h = absurd (n refl)
step-fault G R goal UnknownFact n (s, is, kept, f) = (s, is, f)
step-fault G R goal NoSubgoal n (s, is, kept, f) = (s, is, f)
step-fault G R goal NoPremise n (s, is, kept, f) = (s, is, f)
step-fault G R goal NotDefinition n (s, is, kept, f) = (s, is, f)
step-fault G R goal NothingToUnfold n (s, is, kept, f) = (s, is, f)
step-fault G R goal NoUnifier n (s, is, kept, f) = (s, is, f)
step-fault G R goal SearchBound n (s, is, kept, f) = (s, is, f)
step-fault G R goal Steps n (s, is, kept, f) = (s, is, f)
step-fault G R goal Big n (s, is, kept, f) = (s, is, f)
step-fault G R goal NoHypothesis n (s, is, kept, f) = (s, is, f)
step-fault G R goal SubgoalsLeft n (s, is, kept, f) = (s, is, f)

pub end-fault : (goal : Theorem) (fault : StepFault) → (fault ≡ Memory → ⊥) → IsEnd goal (Err fault) → (s : State) × IsTheoremOf s goal × EndsAs s (Err fault)
end-fault goal Memory n h = absurd (n refl)
end-fault goal UnknownFact n h = h
end-fault goal NoSubgoal n h = h
end-fault goal NoPremise n h = h
end-fault goal NotDefinition n h = h
end-fault goal NothingToUnfold n h = h
end-fault goal NoUnifier n h = h
end-fault goal SearchBound n h = h
end-fault goal Steps n h = h
end-fault goal Big n h = h
end-fault goal NoHypothesis n h = h
end-fault goal SubgoalsLeft n h = h

pub begin-fault : (C : Term) (R : List Label → Type 0) (fault : StepFault) → (fault ≡ Memory → ⊥) → IsOutcome (BeginsAs C) R (Err fault) → BeginsAs C (Err fault)
begin-fault C R Memory n h = absurd (n refl)
begin-fault C R UnknownFact n h = h
begin-fault C R NoSubgoal n h = h
begin-fault C R NoPremise n h = h
begin-fault C R NotDefinition n h = h
begin-fault C R NothingToUnfold n h = h
begin-fault C R NoUnifier n h = h
begin-fault C R SearchBound n h = h
begin-fault C R Steps n h = h
begin-fault C R Big n h = h
begin-fault C R NoHypothesis n h = h
begin-fault C R SubgoalsLeft n h = h

-- What comes of the proof is the call's value.
pub shown-proved : (texts : List (List ℕ)) (f : Fork) (rests : List Label) → IsProofIn texts f.content f.lemma f.fixed f.script (Ok rests) → (made : code.Outcome) → made ≡ outcome.Proved (record { content = f.content; theorem = theorem f.prop rests }) → IsOutcomeOf texts f made
shown-proved texts f rests proof made e = subst (IsOutcomeOf texts f) (sym e) (proof, refl)

module _ (texts : List (List ℕ)) (f : Fork) (p : IsProvable texts f) where
  pub begun-run : (goal : Goal) → IsOutcome (BeginsAs f.fixed) (λ rests. rests ≡ []) (Ok goal) → MayStep f.content goal.thm → HasCome texts f goal.thm 1 f.script
  begun-run goal (s, begins, is, kept, none) may = come-first texts f p goal.thm s begins is may none

  pub not_begun : (fault : StepFault) → (fault ≡ Memory → ⊥) → IsOutcome (BeginsAs f.fixed) (λ rests. rests ≡ []) (Err fault) → IsProofIn texts f.content f.lemma f.fixed f.script (Err (record { step = 0; fault = Big }))
  not_begun fault n h = IsProofBy.not_begun (begin-fault f.fixed (λ rests. rests ≡ []) fault n h)

  module _ (goal : Theorem) (number at : ℕ) (come : HasCome texts f goal number (drop at f.script)) (step : Step) (left : drop at f.script ≡ step ∷ drop (at + 1) f.script) where
    here : HasCome texts f goal number (step ∷ drop (at + 1) f.script)
    here = subst (HasCome texts f goal number) left come

    behind-left : (behind : ℕ) → behind ≡ at + 1 → (new : Theorem) (m : ℕ) → HasCome texts f new m (drop (at + 1) f.script) → HasCome texts f new m (drop behind f.script)
    behind-left behind e new m h = subst (λ (k : ℕ). HasCome texts f new m (drop k f.script)) (sym e) h

    pub run-closed : step ≡ Close → (new : Theorem) → IsClosed f.content goal new → (behind : ℕ) → behind ≡ at + 1 → HasCome texts f new number (drop behind f.script)
    run-closed e new k behind b = behind-left behind b new number (come-closed texts f goal number step (drop (at + 1) f.script) here e new k)

    pub run-further : step ≢ Close → step ≢ Done → (new : Goal) → IsStepIn texts f.content f.lemma step goal (Ok new) → MayStep f.content new.thm → (behind : ℕ) → behind ≡ at + 1
        → HasCome texts f new.thm (number + 1) (drop behind f.script)
    run-further no_close no_end new (s, is, kept, (t, gives, after, long, gains)) may behind b =
        behind-left behind b new.thm (number + 1) (come-further texts f goal number step (drop (at + 1) f.script) here no_close no_end s is new.thm t gives after may gains)

    pub run-failed : (fault : StepFault) → (fault ≡ Memory → ⊥) → IsStepIn texts f.content f.lemma step goal (Err fault)
        → IsProofIn texts f.content f.lemma f.fixed f.script (Err (record { step = number; fault = fault }))
    run-failed fault n h =
        let found = step-fault (λ s. GivesIn texts f.content f.lemma step s) (GainsNamed texts f.content f.lemma (named_facts step) goal.rests) goal fault n h in
        come-failed texts f goal number step (drop (at + 1) f.script) here found.0 found.1 fault found.2

    -- It rests on what the goal rests on.
    pub run-ends : step ≡ Done → (th : Theorem) → IsEnd goal (Ok th) → IsProofIn texts f.content f.lemma f.fixed f.script (Ok goal.rests)
    run-ends e th (s, is, ends, rests) = come-proved texts f goal number step (drop (at + 1) f.script) here e s is (record th { rests = [] }) ends goal.rests refl

    pub run-unfinished : step ≡ Done → (fault : StepFault) → (fault ≡ Memory → ⊥) → IsEnd goal (Err fault) → IsProofIn texts f.content f.lemma f.fixed f.script (Err (record { step = number; fault = fault }))
    run-unfinished e fault n h =
        let found = end-fault goal fault n h in
        come-unfinished texts f goal number step (drop (at + 1) f.script) here e found.0 found.1 fault found.2

pub shown-result : {E : Type 0} (texts : List (List ℕ)) (f : Fork) (run : Run) (rests : List Label) → IsProofIn texts f.content f.lemma f.fixed f.script (Ok rests) → ((c : _) → StopsSo texts f run (outcome.Proved c))
    → (result : Result code.Outcome E) → IfOk result (λ made. made ≡ outcome.Proved (record { content = f.content; theorem = theorem f.prop rests })) → IfOk result (λ made. IsOutcomeOf texts f made × StopsSo texts f run made)
shown-result texts f run rests proof stops (Ok made) e = (shown-proved texts f rests proof made e, subst (StopsSo texts f run) (sym e) (stops (record { content = f.content; theorem = theorem f.prop rests })))
shown-result texts f run rests proof stops (Err fault) e = tt

-- A step over a theory whose content is that of the lemma's fork, in the lemma that it names.
pub step-over : (texts : List (List ℕ)) (R Q : Content) → R ≡ Q → (m n : ℕ) → m ≡ n → (step : Step) (goal : Theorem) (result : Result Goal StepFault) → IsStepIn texts R m step goal result → IsStepIn texts Q n step goal result
step-over texts R Q e m n same step goal result h = subst (λ (x : Content × ℕ). IsStepIn texts x.0 x.1 step goal result) (λ i. (e i, same i)) h

pub may-over : (R Q : Content) → R ≡ Q → (goal : Goal) → MayStep R goal.thm → MayStep Q goal.thm
may-over R Q e goal h = subst (λ (S : Content). MayStep S goal.thm) e h

pub closed-over : (R Q : Content) → R ≡ Q → (goal new : Theorem) → IsClosed R goal new → IsClosed Q goal new
closed-over R Q e goal new h = subst (λ (S : Content). IsClosed S goal new) e h
