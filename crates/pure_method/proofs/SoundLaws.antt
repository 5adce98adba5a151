-- What is proved is derivable.
use Rattle.std.proofs.Common.{◌≡◌, ◌⊎◌, ℕ, ◌+◌, List, [], ◌∷◌, inl, inr, refl, ap, subst, ◌∙◌}
use Rattle.std.specs.Prelude.{Ok, Err}
use Rattle.pure_text.specs.Lists.{IsIn, Each, AnyOf, EachTwo}
use Rattle.pure_text.proofs.ListLaws.{in_split}
use Rattle.pure_definitions.specs.Names.{Label}
use Rattle.pure_definitions.specs.Types.Typ.{Typ, prop}
use Rattle.pure_definitions.specs.Types.Order.{Algebra}
use Rattle.pure_definitions.specs.Terms.Term.{Term, Const, Free, Var, Bound, Abs, App}
use Rattle.pure_definitions.specs.Terms.Bounds.{Occurs}
use Rattle.pure_definitions.specs.Terms.Subst.{TypBind, TermBind, typ_image, term_image, inst_typ, inst_term, retyped_variable}
use Rattle.pure_definitions.specs.Declarations.Decl.{algebra_of}
use Rattle.pure_definitions.proofs.InstanceLemmas.{term_image-fixed}
use Rattle.pure_term_laws.specs.LawsOccurs.{HasNoSchematic}
use Rattle.pure_term_laws.proofs.OccursLaws.{schematic_map_keeps}
use Rattle.pure_term_laws.proofs.SubstLaws.{entries-keep_fixed_typs}
use Rattle.pure_grammar.specs.Theories.TheoryText.{Step, Rule, Erule, Drule, Assumption, Unfold, Prefer, Defer, Close, Done}
use Rattle.pure_logic.specs.Connectives.{eq, protect, chain}
use Rattle.pure_logic.specs.Content.{Content, IsProposition}
use Rattle.pure_logic.specs.Derivable.{Theorem, IsDerivable}
use Rattle.pure_logic.specs.Proves.{Proves}
use Rattle.pure_logic.specs.Laws.Maps.{instantiated, everything, generalised}
use Rattle.pure_logic.proofs.ProvesLaws.{derivable_is_proves}
use Rattle.pure_logic.proofs.EqualityLaws.{right-of, reflexive_equality, transitive_equality}
use Rattle.pure_logic.proofs.TheoremMapLaws.{weaker_is_derivable}
use Rattle.pure_lookup.specs.LookUps.{IsFoundFact, IsFoundLocal}
use Rattle.pure_unify_definitions.specs.Search.{Answer, Unified, NoUnifier, SearchBound, Stopped}
use Rattle.pure_unify_laws.specs.Condition.{IsUnifyContent}
use Rattle.pure_resolve.proofs.UnifyAnswers.SolveLaws.{unifier_solves}
use Rattle.pure_unfold.proofs.UnfoldLaws.{unfolds-derivable}
use Rattle.pure_goal_laws.proofs.StateLaws.{subgoals_are_propositions}
use Rattle.pure_resolve.specs.GoalSteps.State.{State, theorem_of}
use Rattle.pure_resolve.specs.GoalSteps.Follows.{Becomes, Attempt, Follows, FollowsByFirst}
use Rattle.pure_resolve.specs.GoalSteps.Steps.{rule_attempt, BeginsAs, RuleStep, EliminationStep, DestructionStep, AssumptionStep, PreferStep, DeferStep, ConversionStep, EndsAs}
use Rattle.pure_resolve.specs.GoalSteps.Derivability.{IsSound}
use Rattle.pure_resolve.specs.GoalSteps.declared.fault.StepFault.{StepFault}
use Rattle.pure_resolve.proofs.GoalSteps.SoundLaws.{begins_sound, preferred_is_sound, deferred_is_sound, converted_is_sound}
use Rattle.pure_resolve.specs.GoalStepLaws.Laws.{IsUsed}
use Rattle.pure_resolve.proofs.GoalStepLaws.UnifiedLaws.{rule_is_sound, elimination_is_sound, destruction_is_sound, assumption_is_sound}
use Rattle.pure_method.specs.Facts.{theorem, LookUp, IsFoundBy, named_facts, MeansPromiseBy, IsNamedBy}
use Rattle.pure_method.specs.Unfolding.{TakesFact, ComesByFacts, UnfoldStep, all_rests}
use Rattle.pure_method.specs.Proof.{ByFactsOf, GivesBy, Closes, Proved, EndsBy, IsProofBy, IsProof}
use Rattle.pure_method.specs.Laws.{ProvedInIsDerivable}
use Rattle.pure_method.proofs.FactLaws.{FindsOver, everywhere-over, in_lemma-over, found-usable}
use Rattle.pure_method.proofs.EndLaws.{end-derivable, generalised-derivable}

no-ok : (s : State) (f : StepFault) → Ok s ≡ Err f → ⊥
no-ok s f e = cc

-- A term without schematic variables stays as it is under what a unifier sets.
put-keeps : (terms : List TermBind) (t : Term) → ((x i : ℕ) (T : Typ) → ¬ Occurs (Var x i T) t) → inst_term (term_image terms) t ≡ t
put-keeps terms (Const c T) h = refl
put-keeps terms (Free x T) h = term_image-fixed terms x T
put-keeps terms (Var x i T) h = absurd (h x i T refl)
put-keeps terms (Bound n) h = refl
put-keeps terms (Abs T b) h = ap (Abs T) (put-keeps terms b (λ x i U o. h x i U (inr o)))
put-keeps terms (App f a) h =
    let function = put-keeps terms f (λ x i U o. h x i U (inr (inl o))) in
    let argument = put-keeps terms a (λ x i U o. h x i U (inr (inr o))) in
    λ i. App (function i) (argument i)

unifier-keeps : (typs : List TypBind) (terms : List TermBind) (t : Term) → HasNoSchematic t → instantiated typs terms t ≡ t
unifier-keeps typs terms t h =
    let first : inst_typ (typ_image typs) t ≡ t = schematic_map_keeps (typ_image typs) (retyped_variable (typ_image typs)) (entries-keep_fixed_typs typs) (λ x T. refl) t h in
    ap (inst_term (term_image terms)) first ∙ put-keeps terms t h.terms

-- Each step leaves such a statement as it is.
module _ (C : Term) (closed : HasNoSchematic C) where
  pub becomes-keeps : (made s : State) → made.statement ≡ C → Becomes made (Ok s) → s.statement ≡ C
  becomes-keeps made s e (Becomes.small f w) = e

  follows-keeps : (s new : State) (others : List Term) (a : Attempt) (answer : Answer) → s.statement ≡ C → Follows s others a answer (Ok new) → new.statement ≡ C
  follows-keeps s new others a (Unified u) e f =
      let put : instantiated u.typs u.terms s.statement ≡ C = ap (instantiated u.typs u.terms) e ∙ unifier-keeps u.typs u.terms C closed in
      becomes-keeps _ new put f
  follows-keeps s new others a NoUnifier e f = absurd (no-ok new _ f)
  follows-keeps s new others a SearchBound e f = absurd (no-ok new _ f)
  follows-keeps s new others a (Stopped stop) e f = absurd (no-ok new _ f)

  first-keeps : (A : Algebra) (maxidx : ℕ) (s new : State) (others : List Term) (attempts : List Attempt) → s.statement ≡ C → FollowsByFirst A maxidx s others attempts (Ok new) → new.statement ≡ C
  first-keeps A maxidx s new others [] e f = elim f [ ]
  first-keeps A maxidx s new others (a ∷ as') e (FollowsByFirst.passed u rest) = first-keeps A maxidx s new others as' e rest
  first-keeps A maxidx s new others (a ∷ as') e (FollowsByFirst.decided {answer = answer} u n f) = follows-keeps s new others a answer e f

  rule-keeps : (A : Algebra) (s new : State) (fact : Theorem) → s.statement ≡ C → RuleStep A s fact (Ok new) → new.statement ≡ C
  rule-keeps A s new fact e (RuleStep.tried {ps = ps} {C = D} {others = others} {As = As} {B = B} i r f) = follows-keeps s new others (rule_attempt ps D As B) f.answer e f.follows

  elimination-keeps : (A : Algebra) (s new : State) (fact : Theorem) → s.statement ≡ C → EliminationStep A s fact (Ok new) → new.statement ≡ C
  elimination-keeps A s new fact e (EliminationStep.tried {others = others} i r f) = first-keeps A _ s new others _ e f

  destruction-keeps : (A : Algebra) (s new : State) (fact : Theorem) → s.statement ≡ C → DestructionStep A s fact (Ok new) → new.statement ≡ C
  destruction-keeps A s new fact e (DestructionStep.tried {others = others} i r f) = first-keeps A _ s new others _ e f

  assumption-keeps : (A : Algebra) (s new : State) → s.statement ≡ C → AssumptionStep A s (Ok new) → new.statement ≡ C
  assumption-keeps A s new e (AssumptionStep.tried {others = others} i f) = first-keeps A _ s new others _ e f

  prefer-keeps : (s new : State) (n : ℕ) → s.statement ≡ C → PreferStep s n (Ok new) → new.statement ≡ C
  prefer-keeps s new n e (PreferStep.preferred before B after stand count f) = becomes-keeps _ new e f

  defer-keeps : (s new : State) → s.statement ≡ C → DeferStep s (Ok new) → new.statement ≡ C
  defer-keeps s new e (DeferStep.deferred B others stand f) = becomes-keeps _ new e f

  conversion-keeps : (s new : State) (equation : Theorem) → s.statement ≡ C → ConversionStep s equation (Ok new) → new.statement ≡ C
  conversion-keeps s new equation e f = becomes-keeps _ new e f.becomes

in-all : (l : Label) (th : Theorem) (ths : List Theorem) → IsIn l (all_rests (th ∷ ths)) → IsIn l th.rests ⊎ IsIn l (all_rests ths)
in-all l th ths m = in_split l th.rests (all_rests ths) m

module _ (L : LookUp) (Q : Content) (over : FindsOver Q L) (k : IsUnifyContent Q) (C : Term) (closed : HasNoSchematic C) (labels : List Label) where
  -- The state is sound, resting on the labels, and its statement is still C.
  pub record Holds (s : State) : Type 0 where
    pub sound : IsSound Q labels s
    pub statement : s.statement ≡ C

  -- Each promise that the names mean is among the labels.
  abbrev pub AreCovered : List (List ℕ) → Type 0
  AreCovered written = (l : Label) → AnyOf (MeansPromiseBy L l) written → IsIn l labels

  pub used : (written : List ℕ) (fact : Theorem) → AreCovered (written ∷ []) → IsFoundBy L written fact → IsUsed Q fact labels labels
  used written fact covered found =
      let u = found-usable L Q over k.above written fact found in
      record { no_hyps = u.no_hyps; no_pairs = u.no_pairs; derivable = u.derivable; goal_rests = λ l m. m; fact_rests = λ l m. covered l (inl (u.named l m)) }

  with_one-used : (written : List ℕ) (facts : List Theorem) (fact : Theorem) → facts ≡ fact ∷ [] → EachTwo (IsFoundBy L) (written ∷ []) facts → IsFoundBy L written fact
  with_one-used written facts fact e h = (subst (λ (ths : List Theorem). EachTwo (IsFoundBy L) (written ∷ []) ths) e h).0

  -- Of facts that are found, what they rest on is among the labels, and the equation of what a proposition comes to by them is proved.
  covered-rests : (written : List (List ℕ)) (facts : List Theorem) → AreCovered written → EachTwo (IsFoundBy L) written facts → (l : Label) → IsIn l (all_rests facts) → IsIn l labels
  covered-rests [] [] covered h l m = absurd m
  covered-rests [] (f ∷ fs) covered h l m = absurd h
  covered-rests (w ∷ ws) [] covered h l m = absurd h
  covered-rests (w ∷ ws) (f ∷ fs) covered h l m = elim (in-all l f fs m) [
    | inl here ↦ covered l (inl ((found-usable L Q over k.above w f h.0).named l here))
    | inr there ↦ covered-rests ws fs (λ n a. covered n (inr a)) h.1 l there
  ]

  -- The definition is derivable, and rests on these labels.
  abbrev IsGiven : Theorem → Type 0
  IsGiven fact = IsDerivable Q (theorem fact.prop labels)

  pub given : (written : List ℕ) (fact : Theorem) → AreCovered (written ∷ []) → IsFoundBy L written fact → IsGiven fact
  given written fact covered found =
      let u = used written fact covered found in
      let alike : IsDerivable Q (theorem fact.prop fact.rests) = subst (IsDerivable Q) (λ i. record { hyps = u.no_hyps i; pairs = u.no_pairs i; prop = fact.prop; rests = fact.rests }) u.derivable in
      weaker_is_derivable Q (theorem fact.prop fact.rests) [] labels (record { hyps = λ B m. m; rests = u.fact_rests }) alike

  pub all-given : (written : List (List ℕ)) (facts : List Theorem) → AreCovered written → EachTwo (IsFoundBy L) written facts → Each IsGiven facts
  all-given [] [] covered h = tt
  all-given [] (f ∷ fs) covered h = absurd h
  all-given (w ∷ ws) [] covered h = absurd h
  all-given (w ∷ ws) (f ∷ fs) covered h = (given w f (λ l m. elim m [ inl a ↦ covered l (inl a) | inr none ↦ absurd none ]) h.0, all-given ws fs (λ l m. covered l (inr m)) h.1)

  pub comes-proved : (first now last : Term) (facts : List Theorem) → Each IsGiven facts → Proves Q [] labels (eq prop first now) → ComesByFacts (algebra_of Q.declarations) first now facts (Ok last) → Proves Q [] labels (eq prop first last)
  comes-proved first now last [] h p ComesByFacts.no_more = p
  comes-proved first now last (fact ∷ facts) h p (ComesByFacts.goes_on {u = u} (TakesFact.unfolded f w v) rest) =
      let side = right-of Q k.content k.above [] labels prop first now p in
      let step = (derivable_is_proves Q [] labels (eq prop now u)).0 (unfolds-derivable Q k.content k.above labels prop fact.prop now u (record { parts = side.certified.parts; typed = side.typed }) h.0 f) in
      comes-proved first u last facts h.1 (transitive_equality Q k.content k.above [] labels prop first now u p step) rest

  pub first-proposition : (s : State) (first : Term) (others : List Term) → s.subgoals ≡ first ∷ others → IsSound Q labels s → IsProposition Q first
  first-proposition s first others e h =
      (subgoals_are_propositions Q k.content k.above (theorem_of s labels) (first ∷ others) (protect s.statement) (ap (λ (As : List Term). chain As (protect s.statement)) e) h.derivable).0

  unfold-holds : (s new : State) (written : List (List ℕ)) (facts : List Theorem) → AreCovered written → EachTwo (IsFoundBy L) written facts → Holds s → UnfoldStep (algebra_of Q.declarations) s facts (Ok new) → Holds new
  unfold-holds s new written facts covered found h (UnfoldStep.converted {first = first} {last = last} {others = others} e c f) =
      let is = first-proposition s first others e h.sound in
      let start = reflexive_equality Q k.content k.above [] labels prop first is in
      let proved = comes-proved first first last facts (all-given written facts covered found) start c in
      let equation = theorem (eq prop first last) labels in
      let derivable = (derivable_is_proves Q [] labels (eq prop first last)).1 proved in
      let same : ConversionStep s equation (Ok new) = record { left = f.left; right = f.right; others = f.others; stand = f.stand; equates = f.equates; becomes = f.becomes } in
      record {
        sound = converted_is_sound Q k.content k.above s new equation labels labels h.sound refl refl derivable (λ l m. m) (λ l m. m) same;
        statement = conversion-keeps C closed s new equation h.statement same;
      }

  pub gives-holds : (step : Step) (s new : State) → AreCovered (named_facts step) → Holds s → GivesBy L Q step s (Ok new) → Holds new
  gives-holds (Rule fact) s new covered h (ByFactsOf.known {facts = facts} found (th, e, f)) =
      let u = used fact th covered (with_one-used fact facts th e found) in
      record { sound = rule_is_sound Q k unifier_solves s new th labels labels h.sound u f; statement = rule-keeps C closed (algebra_of Q.declarations) s new th h.statement f }
  gives-holds (Erule fact) s new covered h (ByFactsOf.known {facts = facts} found (th, e, f)) =
      let u = used fact th covered (with_one-used fact facts th e found) in
      record { sound = elimination_is_sound Q k unifier_solves s new th labels labels h.sound u f; statement = elimination-keeps C closed (algebra_of Q.declarations) s new th h.statement f }
  gives-holds (Drule fact) s new covered h (ByFactsOf.known {facts = facts} found (th, e, f)) =
      let u = used fact th covered (with_one-used fact facts th e found) in
      record { sound = destruction_is_sound Q k unifier_solves s new th labels labels h.sound u f; statement = destruction-keeps C closed (algebra_of Q.declarations) s new th h.statement f }
  gives-holds (Unfold written) s new covered h (ByFactsOf.known {facts = facts} found f) = unfold-holds s new written facts covered found h f
  gives-holds Assumption s new covered h f =
      record { sound = assumption_is_sound Q k unifier_solves s new labels h.sound f; statement = assumption-keeps C closed (algebra_of Q.declarations) s new h.statement f }
  gives-holds (Prefer n) s new covered h f =
      record { sound = preferred_is_sound Q k.content k.above s new n labels h.sound f; statement = prefer-keeps C closed s new n h.statement f }
  gives-holds Defer s new covered h f =
      record { sound = deferred_is_sound Q k.content k.above s new labels h.sound f; statement = defer-keeps C closed s new h.statement f }
  gives-holds Close s new covered h f = absurd f
  gives-holds Done s new covered h f = absurd f

  pub closes-holds : (s last : State) → Holds s → Closes (algebra_of Q.declarations) s last → Holds last
  closes-holds s last h (Closes.stops f) = h
  closes-holds s last h (Closes.goes_on {next = next} f rest) =
      closes-holds next last (record { sound = assumption_is_sound Q k unifier_solves s next labels h.sound f; statement = assumption-keeps C closed (algebra_of Q.declarations) s next h.statement f }) rest

  -- Each promise that the steps name is among the labels.
  abbrev pub AreStepsCovered : List Step → Type 0
  AreStepsCovered steps = (l : Label) → IsNamedBy L steps l → IsIn l labels

  module _ (Concluded : Type 0) (at_end : (s : State) (th : Theorem) → Holds s → EndsAs s (Ok th) → Concluded) where
    ends-conclude : (number : ℕ) (s : State) (steps : List Step) → AreStepsCovered steps → Holds s → EndsBy L Q number s steps Proved → Concluded
    ends-conclude number s steps covered h (EndsBy.finished {th = th} f) = at_end s th h f
    ends-conclude number s steps covered h (EndsBy.closed {next = next} {steps = left} f rest) = ends-conclude number next left (λ l m. covered l (inr m)) (closes-holds s next h f) rest
    ends-conclude number s steps covered h (EndsBy.goes_on {next = next} {step = step} {steps = left} f rest) =
        ends-conclude (number + 1) next left (λ l m. covered l (inr m)) (gives-holds step s next (λ l m. covered l (inl m)) h f) rest

  proved_by-derivable : (script : List Step) → IsProofBy L Q C script (Ok labels) → IsProposition Q C → IsDerivable Q (theorem (generalised (everything 0) C) labels)
  proved_by-derivable script (IsProofBy.proved {s = s} begun ended named) is =
      generalised-derivable Q k C closed labels
      (ends-conclude (IsDerivable Q (theorem C labels)) (λ t th h f. end-derivable Q k C closed labels t th h.sound h.statement f) 1 s script (λ l m. (named.exactly l).1 m) (start s begun is) ended)
    where
      start : (s : State) → BeginsAs C (Ok s) → IsProposition Q C → Holds s
      start s begun is =
          let sound = begins_sound Q k.content k.above C s is begun in
          record {
            sound = record { goal = sound.goal; derivable = weaker_is_derivable Q (theorem_of s []) [] labels (record { hyps = λ B m. m; rests = λ l m. absurd m }) sound.derivable };
            statement = becomes-keeps C closed _ s refl begun;
          }

pub proved-derivable : (texts : List (List ℕ)) (Q : Content) → IsUnifyContent Q → (C : Term) → HasNoSchematic C → (labels : List Label) (script : List Step) → IsProof texts Q C script (Ok labels)
    → IsProposition Q C → IsDerivable Q (theorem (generalised (everything 0) C) labels)
proved-derivable texts Q = proved_by-derivable (IsFoundFact texts Q) Q (everywhere-over texts Q)

pub proved_in-derivable : ProvedInIsDerivable
proved_in-derivable texts Q k lemma C is closed script labels proof = proved_by-derivable (IsFoundLocal texts Q lemma) Q (in_lemma-over texts Q lemma) k C closed labels script proof is
