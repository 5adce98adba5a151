-- Each proof has a value, where each look-up and each unfolding has an answer.
use Rattle.std.proofs.Common.{◌≡◌, ◌≢◌, ◌⊎◌, ◌↔◌, ℕ, ◌+◌, List, [], ◌∷◌, ◌++◌, inl, inr, refl, sym, subst}
use Rattle.std.specs.Prelude.{Option, Some, None, Result, Ok, Err, true}
use Rattle.std.proofs.lemmas.Option.{same_Some, none-some}
use Rattle.std.specs.Set.{sorted_merge}
use Rattle.pure_text.specs.Lists.{IsIn, EachTwo, AnyOf}
use Rattle.pure_text.proofs.ListLaws.{in_split, in-append_left, in-append_right}
use Rattle.pure_definitions.specs.Names.{Label}
use Rattle.pure_definitions.specs.Types.Typ.{prop}
use Rattle.pure_definitions.specs.Types.Order.{Algebra}
use Rattle.pure_definitions.specs.Terms.Term.{Term}
use Rattle.pure_definitions.specs.Declarations.Decl.{algebra_of}
use Rattle.pure_term_laws.specs.LawsOccurs.{HasNoSchematic}
use Rattle.pure_grammar.specs.Theories.TheoryText.{Step, Rule, Erule, Drule, Assumption, Unfold, Prefer, Defer, Close, Done}
use Rattle.pure_logic.specs.Connectives.{eq}
use Rattle.pure_logic.specs.Content.{Content, IsProposition}
use Rattle.pure_logic.specs.Derivable.{Theorem}
use Rattle.pure_logic.proofs.EqualityLaws.{right-of, reflexive_equality}
use Rattle.pure_logic.proofs.TheoremMapLaws.{weaker_is_derivable}
use Rattle.pure_lookup.specs.LookUps.{Fact, BuiltFact, AxiomFact, PromisedFact, IsFoundFact, IsFoundLocal}
use Rattle.pure_theorem.specs.Sets.{label_cmp, IsLabelSet}
use Rattle.pure_theorem.proofs.SetLaws.{union_of_labels, no_labels, one_label}
use Rattle.pure_unfold.specs.Unfold.{IsNoDefinition, Unfolds, UnfoldsNothing}
use Rattle.pure_unify_laws.specs.Condition.{IsUnifyContent}
use Rattle.pure_resolve.proofs.UnifyAnswers.TreatmentLaws.{term_within_or_not}
use Rattle.pure_resolve.specs.GoalSteps.State.{State, theorem_of}
use Rattle.pure_resolve.specs.GoalSteps.Follows.{Outcome}
use Rattle.pure_resolve.specs.GoalSteps.Steps.{BeginsAs, RuleStep, EliminationStep, DestructionStep, EndsAs}
use Rattle.pure_resolve.specs.GoalSteps.declared.fault.StepFault.{StepFault}
use Rattle.pure_resolve.specs.GoalSteps.declared.fault.StepFault.TheVariants as fault
use Rattle.pure_resolve.proofs.GoalSteps.SoundLaws.{begins_sound}
use Rattle.pure_method.specs.Facts.{theorem, LookUp, IsFoundBy, IsUnknownBy, named_facts, MeansPromiseBy, AreNamedBy}
use Rattle.pure_method.specs.Unfolding.{IsSmallEquation, TakesFact, ComesByFacts, UnfoldStep, chained_equation}
use Rattle.pure_method.specs.Proof.{ByFactsOf, WithOne, GivesBy, ProofOutcome, Ending, Proved, Failed, EndsBy, IsProofBy}
use Rattle.pure_method.specs.Outcomes.{HasOutcome, HasAnswersBy, ProofHasAValue, IsScript, ends_here, goes_further}
use Rattle.pure_method.specs.Laws.{ProofInHasAValue}
use Rattle.pure_method.proofs.FactLaws.{IsOnce, FindsOver, everywhere-over, everywhere-once, in_lemma-over, in_lemma-once}
use Rattle.pure_method.proofs.UnfoldDecidedLaws.{unfolds_or_not}
use Rattle.pure_method.proofs.OutcomeLaws.{begins_somehow, rule_somehow, elimination_somehow, destruction_somehow, assumption_somehow, prefer_somehow, defer_somehow, conversion_somehow}
use Rattle.pure_method.proofs.ClosingLaws.{closes_somehow, ends_somehow}
use Rattle.pure_method.proofs.SoundLaws.{Holds, AreCovered, AreStepsCovered, used, all-given, comes-proved, first-proposition, gives-holds, closes-holds, becomes-keeps}

-- The labels that are told of each of several things, together.
collected : {A : Type 0} (P : A → Label → Type 0) → ((x : A) → (ls : List Label) × ((l : Label) → IsIn l ls ↔ P x l)) → (xs : List A) → (ls : List Label) × ((l : Label) → IsIn l ls ↔ AnyOf (λ x. P x l) xs)
collected P each [] = ([], λ l. (λ m. m, λ m. m))
collected P each (x ∷ xs) =
    let here = each x in
    let rest = collected P each xs in (
      here.0 ++ rest.0,
      λ l. (
        λ m. elim (in_split l here.0 rest.0 m) [ inl n ↦ inl ((here.1 l).0 n) | inr n ↦ inr ((rest.1 l).0 n) ],
        λ m. elim m [ inl n ↦ in-append_left l here.0 rest.0 ((here.1 l).1 n) | inr n ↦ in-append_right l here.0 rest.0 ((rest.1 l).1 n) ],
      ),
    )

-- Each list of labels has its set.
as_set : (ls : List Label) → (set : List Label) × IsLabelSet set × ((l : Label) → IsIn l set ↔ IsIn l ls)
as_set [] = ([], no_labels, λ l. (λ m. m, λ m. m))
as_set (k ∷ ls) =
    let rest = as_set ls in
    let union = union_of_labels (k ∷ []) rest.0 (sorted_merge label_cmp true (k ∷ []) rest.0) refl (one_label k) rest.1 in (
      sorted_merge label_cmp true (k ∷ []) rest.0,
      union.ascends,
      λ l. (
        λ m. elim ((union.members l).0 m) [ inl e ↦ inl e | inr n ↦ inr ((rest.2 l).0 n) ],
        λ m. (union.members l).1 (elim m [ inl e ↦ inl e | inr n ↦ inr ((rest.2 l).1 n) ]),
      ),
    )

module _ (L : LookUp) (Q : Content) (over : FindsOver Q L) (once_found : IsOnce L) (k : IsUnifyContent Q) (answers : HasAnswersBy L) where
  abbrev A : Algebra
  A = algebra_of Q.declarations

  found-or-not : (written : List ℕ) → ((th : Theorem) × IsFoundBy L written th) ⊎ IsUnknownBy L written
  found-or-not written = by (answers.found written).0 (answers.found written).1
    where
      by : (found : Option Fact) → L written found → ((th : Theorem) × IsFoundBy L written th) ⊎ IsUnknownBy L written
      by None h = inr h
      by (Some (BuiltFact place)) h =
          let B = over written (BuiltFact place) h in
          inl (theorem B.0 [], record { fact = BuiltFact place; found = h; is = (B.0, B.1, refl) })
      by (Some (AxiomFact name B)) h = inl (theorem B [], record { fact = AxiomFact name B; found = h; is = refl })
      by (Some (PromisedFact name label B)) h = inl (theorem B (label ∷ []), record { fact = PromisedFact name label B; found = h; is = refl })

  abbrev AllFound : List (List ℕ) → Type 0
  AllFound ws = (ths : List Theorem) × EachTwo (IsFoundBy L) ws ths

  all_found-or-not : (ws : List (List ℕ)) → AllFound ws ⊎ AnyOf (IsUnknownBy L) ws
  all_found-or-not [] = inl ([], tt)
  all_found-or-not (w ∷ ws) = by (found-or-not w) (all_found-or-not ws)
    where
      by : ((th : Theorem) × IsFoundBy L w th) ⊎ IsUnknownBy L w → AllFound ws ⊎ AnyOf (IsUnknownBy L) ws → AllFound (w ∷ ws) ⊎ AnyOf (IsUnknownBy L) (w ∷ ws)
      by (inr unknown) rest = inr (inl unknown)
      by (inl here) (inr unknown) = inr (inr unknown)
      by (inl here) (inl rest) = inl (here.0 ∷ rest.0, (here.1, rest.1))

  -- The promise that a name means.
  abbrev HasLabels : List ℕ → Type 0
  HasLabels written = (ls : List Label) × ((l : Label) → IsIn l ls ↔ MeansPromiseBy L l written)

  once : (written : List ℕ) (a b : Fact) → L written (Some a) → L written (Some b) → a ≡ b
  once written a b h i = same_Some a b (once_found written (Some a) (Some b) h i)

  label-same : (m n : ℕ) (l j : Label) (B C : Term) → PromisedFact m l B ≡ PromisedFact n j C → j ≡ l
  label-same m n l j B C e = cc

  built-no_promise : (p n : ℕ) (l : Label) (B : Term) → BuiltFact p ≡ PromisedFact n l B → ⊥
  built-no_promise p n l B e = cc

  axiom-no_promise : (m n : ℕ) (l : Label) (B C : Term) → AxiomFact m B ≡ PromisedFact n l C → ⊥
  axiom-no_promise m n l B C e = cc

  labels-of : (written : List ℕ) → HasLabels written
  labels-of written = by (answers.found written).0 (answers.found written).1
    where
      by : (found : Option Fact) → L written found → HasLabels written
      by None h = ([], λ l. (λ m. absurd m, λ p. none-some (PromisedFact p.0 l p.1) (once_found written None (Some (PromisedFact p.0 l p.1)) h p.2)))
      by (Some (BuiltFact place)) h = ([], λ l. (λ m. absurd m, λ p. built-no_promise place p.0 l p.1 (once written (BuiltFact place) (PromisedFact p.0 l p.1) h p.2)))
      by (Some (AxiomFact name B)) h = ([], λ l. (λ m. absurd m, λ p. axiom-no_promise name p.0 l B p.1 (once written (AxiomFact name B) (PromisedFact p.0 l p.1) h p.2)))
      by (Some (PromisedFact name label B)) h = (
        label ∷ [],
        λ l. (
          λ m. elim m [ inl e ↦ (name, B, subst (λ (j : Label). L written (Some (PromisedFact name j B))) (sym e) h) | inr n ↦ absurd n ],
          λ p. inl (label-same name p.0 label l B p.1 (once written (PromisedFact name label B) (PromisedFact p.0 l p.1) h p.2)),
        ),
      )

  some_named : (script : List Step) → (labels : List Label) × AreNamedBy L script labels
  some_named script =
      let all = collected (λ (step : Step) l. AnyOf (MeansPromiseBy L l) (named_facts step)) (λ step. collected (λ w l. MeansPromiseBy L l w) labels-of (named_facts step)) script in
      let set = as_set all.0 in
      (set.0, record { ascend = set.1; exactly = λ l. (λ m. (all.1 l).0 ((set.2 l).0 m), λ n. (set.2 l).1 ((all.1 l).1 n)) })

  module _ (C : Term) (closed : HasNoSchematic C) (labels : List Label) where
    takes_somehow : (first now : Term) (fact : Theorem) → (r : Result Term StepFault) × TakesFact A first now fact r
    takes_somehow first now fact = by (unfolds_or_not A k.content.coregular fact.prop now)
      where
        measured : (u : Term) → Unfolds A fact.prop now u → IsSmallEquation now u ⊎ ¬ IsSmallEquation now u → IsSmallEquation first u ⊎ ¬ IsSmallEquation first u → (r : Result Term StepFault) × TakesFact A first now fact r
        measured u f (inr n) other = (Err fault.Big, TakesFact.large f (inl n))
        measured u f (inl w) (inr n) = (Err fault.Big, TakesFact.large f (inr n))
        measured u f (inl w) (inl v) = (Ok u, TakesFact.unfolded f w v)

        by : IsNoDefinition fact.prop ⊎ (UnfoldsNothing A fact.prop now ⊎ ((u : Term) × Unfolds A fact.prop now u)) → (r : Result Term StepFault) × TakesFact A first now fact r
        by (inl none) = (Err fault.NotDefinition, TakesFact.no_definition none)
        by (inr (inl nothing)) = (Err fault.NothingToUnfold, TakesFact.nothing nothing)
        by (inr (inr (u, f))) = measured u f (term_within_or_not (eq prop now u)) (term_within_or_not (eq prop first u))

    comes-further : (first now : Term) (fact : Theorem) (ths : List Theorem) → ((u : Term) → (r : Result Term StepFault) × ComesByFacts A first u ths r) → (r : Result Term StepFault) × TakesFact A first now fact r → (r : Result Term StepFault) × ComesByFacts A first now (fact ∷ ths) r
    comes-further first now fact ths rest (Err f, h) = (Err f, ComesByFacts.fails h)
    comes-further first now fact ths rest (Ok u, h) = let later = rest u in (later.0, ComesByFacts.goes_on h later.1)

    comes_somehow : (first now : Term) (ths : List Theorem) → (r : Result Term StepFault) × ComesByFacts A first now ths r
    comes_somehow first now [] = (Ok now, ComesByFacts.no_more)
    comes_somehow first now (fact ∷ ths) = comes-further first now fact ths (λ u. comes_somehow first u ths) (takes_somehow first now fact)

    abbrev HoldsSo : State → Type 0
    HoldsSo s = Holds L Q over k C closed labels s

    unfold_somehow : (s : State) → HoldsSo s → (written : List (List ℕ)) (ths : List Theorem) → AreCovered L Q over k C closed labels written → EachTwo (IsFoundBy L) written ths → HasOutcome (UnfoldStep A s ths)
    unfold_somehow s h written ths covered found = by s.subgoals refl
      where
        come : (first : Term) (others : List Term) → s.subgoals ≡ first ∷ others → (r : Result Term StepFault) → ComesByFacts A first first ths r → HasOutcome (UnfoldStep A s ths)
        come first others e (Err f) c = (Err f, UnfoldStep.refused e c)
        come first others e (Ok last) c =
            let is = first-proposition L Q over k C closed labels s first others e h.sound in
            let start = reflexive_equality Q k.content k.above [] labels prop first is in
            let proved = comes-proved L Q over k C closed labels first first last ths (all-given L Q over k C closed labels written ths covered found) start c in
            let side = right-of Q k.content k.above [] labels prop first last proved in
            let next = conversion_somehow Q k s labels h.sound (chained_equation first last ths) first last others e refl side in
            (next.0, UnfoldStep.converted e c next.1)

        by : (As : List Term) → s.subgoals ≡ As → HasOutcome (UnfoldStep A s ths)
        by [] e = (Err fault.NoSubgoal, UnfoldStep.no_subgoal e)
        by (first ∷ others) e = let c = comes_somehow first first ths in come first others e c.0 c.1

    by_one : (With : Theorem → Outcome → Type 0) (written : List ℕ) → ((th : Theorem) → IsFoundBy L written th → HasOutcome (With th)) → HasOutcome (ByFactsOf L (WithOne With) (written ∷ []))
    by_one With written with = elim (found-or-not written) [
      | inr unknown ↦ (Err fault.UnknownFact, ByFactsOf.unknown (inl unknown))
      | inl known ↦ let next = with known.0 known.1 in (next.0, ByFactsOf.known {facts = known.0 ∷ []} (known.1, tt) (known.0, refl, next.1))
    ]

    by_all : (s : State) → HoldsSo s → (written : List (List ℕ)) → AreCovered L Q over k C closed labels written → HasOutcome (ByFactsOf L (UnfoldStep A s) written)
    by_all s h written covered = elim (all_found-or-not written) [
      | inr unknown ↦ (Err fault.UnknownFact, ByFactsOf.unknown unknown)
      | inl known ↦ let next = unfold_somehow s h written known.0 covered known.1 in (next.0, ByFactsOf.known known.1 next.1)
    ]

    abbrev EndsSo : ℕ → State → List Step → Type 0
    EndsSo number s steps = (end : Ending) × EndsBy L Q number s steps end

    module _ (number : ℕ) (s : State) (steps : List Step) (h : HoldsSo s) (further : (number : ℕ) (next : State) → HoldsSo next → EndsSo number next steps) where
      stepped : (step : Step) → AreCovered L Q over k C closed labels (named_facts step) → HasOutcome (GivesBy L Q step s) → EndsSo number s (step ∷ steps)
      stepped step covered (Err f, g) = (Failed (record { step = number; fault = f }), EndsBy.refused g)
      stepped step covered (Ok next, g) = let rest = further (number + 1) next (gives-holds L Q over k C closed labels step s next covered h g) in (rest.0, EndsBy.goes_on g rest.1)

      by_step : (step : Step) → step ≢ Done → AreCovered L Q over k C closed labels (named_facts step) → EndsSo number s (step ∷ steps)
      by_step (Rule fact) n covered =
          stepped (Rule fact) covered (by_one (RuleStep A s) fact (λ th found. rule_somehow Q k s labels h.sound th labels (used L Q over k C closed labels fact th covered found) (answers.normal fact th found)))
      by_step (Erule fact) n covered =
          stepped (Erule fact) covered (by_one (EliminationStep A s) fact (λ th found. elimination_somehow Q k s labels h.sound th labels (used L Q over k C closed labels fact th covered found) (answers.normal fact th found)))
      by_step (Drule fact) n covered =
          stepped (Drule fact) covered (by_one (DestructionStep A s) fact (λ th found. destruction_somehow Q k s labels h.sound th labels (used L Q over k C closed labels fact th covered found) (answers.normal fact th found)))
      by_step Assumption n covered = stepped Assumption covered (assumption_somehow Q k s labels h.sound)
      by_step (Unfold written) n covered = stepped (Unfold written) covered (by_all s h written covered)
      by_step (Prefer m) n covered = stepped (Prefer m) covered (prefer_somehow Q k s labels h.sound m)
      by_step Defer n covered = stepped Defer covered (defer_somehow Q k s labels h.sound)
      by_step Close n covered =
          let closing = closes_somehow Q k labels s h.sound in
          let rest = further number closing.0 (closes-holds L Q over k C closed labels s closing.0 h closing.1) in
          (rest.0, EndsBy.closed closing.1 rest.1)
      by_step Done n covered = absurd (n refl)

    ended : (number : ℕ) (s : State) → (r : Result Theorem StepFault) → EndsAs s r → EndsSo number s (Done ∷ [])
    ended number s (Ok th) e = (Proved, EndsBy.finished e)
    ended number s (Err f) e = (Failed (record { step = number; fault = f }), EndsBy.unfinished e)

    script-ends : (steps : List Step) → IsScript steps → AreStepsCovered L Q over k C closed labels steps → (number : ℕ) (s : State) → HoldsSo s → EndsSo number s steps
    script-ends [] is covered number s h = elim is [ ]
    script-ends (Done ∷ []) ends_here covered number s h =
        let end = ends_somehow Q k s labels h.sound (subst HasNoSchematic (sym h.statement) closed) in ended number s end.0 end.1
    script-ends (step ∷ steps) (goes_further n rest) covered number s h =
        by_step number s steps h (λ m next held. script-ends steps rest (λ l a. covered l (inr a)) m next held) step n (λ l a. covered l (inl a))

  value_by : (C : Term) → IsProposition Q C → HasNoSchematic C → (script : List Step) → IsScript script → (outcome : ProofOutcome) × IsProofBy L Q C script outcome
  value_by C is closed script steps = begun (begins_somehow Q k C is).0 (begins_somehow Q k C is).1 (some_named script).0 (some_named script).1
    where
      start : (labels : List Label) (s : State) → BeginsAs C (Ok s) → Holds L Q over k C closed labels s
      start labels s f =
          let sound = begins_sound Q k.content k.above C s is f in
          record {
            sound = record { goal = sound.goal; derivable = weaker_is_derivable Q (theorem_of s []) [] labels (record { hyps = λ B m. m; rests = λ l m. absurd m }) sound.derivable };
            statement = becomes-keeps C closed _ s refl f;
          }

      value : (labels : List Label) → AreNamedBy L script labels → (s : State) → BeginsAs C (Ok s) → (end : Ending) → EndsBy L Q 1 s script end → (outcome : ProofOutcome) × IsProofBy L Q C script outcome
      value labels named s f Proved e = (Ok labels, IsProofBy.proved f e named)
      value labels named s f (Failed g) e = (Err g, IsProofBy.failed f e)

      begun : (outcome : Outcome) → BeginsAs C outcome → (labels : List Label) → AreNamedBy L script labels → (outcome : ProofOutcome) × IsProofBy L Q C script outcome
      begun (Err f) b labels named = (Err (record { step = 0; fault = fault.Big }), IsProofBy.not_begun b)
      begun (Ok s) b labels named =
          let end = script-ends C closed labels script steps (λ l n. (named.exactly l).1 n) 1 s (start labels s b) in
          value labels named s b end.0 end.1

pub proof_has_a_value : ProofHasAValue
proof_has_a_value texts Q session k answers = value_by (IsFoundFact texts Q) Q (everywhere-over texts Q) (everywhere-once texts Q session k.content) k answers

pub proof_in-has_a_value : ProofInHasAValue
proof_in-has_a_value texts Q session k lemma answers = value_by (IsFoundLocal texts Q lemma) Q (in_lemma-over texts Q lemma) (in_lemma-once texts Q session k.content lemma) k answers
