-- No fault of a proof is want of memory; and what a proof rests on are promises.
use Rattle.std.proofs.Common.{◌≡◌, ℕ, List, [], ◌∷◌, sym, ◌∙◌}
use Rattle.std.specs.Prelude.{Ok, Err}
use Rattle.pure_text.specs.Lists.{Each, AnyOf}
use Rattle.pure_text.proofs.ListLaws.{each_of, any_some}
use Rattle.pure_definitions.specs.Names.{Label}
use Rattle.pure_definitions.specs.Terms.Term.{Term}
use Rattle.pure_definitions.specs.Types.Order.{Algebra}
use Rattle.pure_definitions.specs.Declarations.Decl.{algebra_of}
use Rattle.pure_grammar.specs.Theories.TheoryText.{Step, Rule, Erule, Drule, Assumption, Unfold, Prefer, Defer, Close, Done}
use Rattle.pure_logic.specs.Content.{Content}
use Rattle.pure_logic.specs.Derivable.{Theorem}
use Rattle.pure_lookup.specs.LookUps.{IsFoundFact, IsFoundLocal}
use Rattle.pure_theorem.specs.Facts.{IsPromise}
use Rattle.pure_unify_definitions.specs.LongSides as sides
use Rattle.pure_unify_definitions.specs.LongSides.{Stop}
use Rattle.pure_unify_definitions.specs.Search as search
use Rattle.pure_unify_definitions.specs.Search.{Unifier, Answer, Unified, Stopped}
use Rattle.pure_resolve.specs.GoalSteps.State.{State}
use Rattle.pure_resolve.specs.GoalSteps.Follows.{Outcome, stop_fault, Becomes, Attempt, Follows, FollowsByFirst}
use Rattle.pure_resolve.specs.GoalSteps.Steps.{rule_attempt, RuleStep, EliminationStep, DestructionStep, AssumptionStep, PreferStep, DeferStep, EndsAs}
use Rattle.pure_resolve.specs.GoalSteps.declared.fault.StepFault.{StepFault}
use Rattle.pure_resolve.specs.GoalSteps.declared.fault.StepFault.TheVariants as fault
use Rattle.pure_method.specs.Facts.{LookUp, named_facts, MeansPromiseBy, IsNamedBy}
use Rattle.pure_method.specs.Unfolding.{TakesFact, ComesByFacts, UnfoldStep}
use Rattle.pure_method.specs.Proof.{ByFactsOf, WithOne, GivesBy, ProofFault, Failed, EndsBy, IsProofBy}
use Rattle.pure_method.specs.Laws.{RestsOnPromises, RestsInOnPromises, NeverMemory, NeverMemoryIn}
use Rattle.pure_method.proofs.FactLaws.{FindsOver, everywhere-over, in_lemma-over, promised}

-- The fault isn't want of memory.
abbrev IsNone : StepFault → Type 0
IsNone f = f ≡ fault.Memory → ⊥

same-fault : (f g : StepFault) → ◌≡◌ {A = Outcome} (Err f) (Err g) → f ≡ g
same-fault f g e = cc

stop-none : (s : Stop) → IsNone (stop_fault s)
stop-none sides.Steps e = cc
stop-none sides.Big e = cc

becomes-none : (made : State) (f : StepFault) → Becomes made (Err f) → IsNone f
becomes-none made f (Becomes.halted {s = s} c) = stop-none s
becomes-none made f (Becomes.large c w) = λ e. cc

follows-none : (s : State) (others : List Term) (a : Attempt) (answer : Answer) (f : StepFault) → Follows s others a answer (Err f) → IsNone f
follows-none s others a (Unified u) f h = becomes-none _ f h
follows-none s others a search.NoUnifier f h = λ e. let is : f ≡ fault.NoUnifier = same-fault f fault.NoUnifier h in cc
follows-none s others a search.SearchBound f h = λ e. let is : f ≡ fault.SearchBound = same-fault f fault.SearchBound h in cc
follows-none s others a (Stopped stop) f h = λ e. let is : f ≡ stop_fault stop = same-fault f (stop_fault stop) h in stop-none stop (sym is ∙ e)

first-none : (A : Algebra) (maxidx : ℕ) (s : State) (others : List Term) (attempts : List Attempt) (f : StepFault) → FollowsByFirst A maxidx s others attempts (Err f) → IsNone f
first-none A maxidx s others [] f FollowsByFirst.none = λ e. cc
first-none A maxidx s others (a ∷ more) f (FollowsByFirst.passed u rest) = first-none A maxidx s others more f rest
first-none A maxidx s others (a ∷ more) f (FollowsByFirst.decided {answer = answer} u n h) = follows-none s others a answer f h

rule-none : (A : Algebra) (s : State) (fact : Theorem) (f : StepFault) → RuleStep A s fact (Err f) → IsNone f
rule-none A s fact f (RuleStep.no_subgoal e) = λ d. cc
rule-none A s fact f (RuleStep.tried {ps = ps} {C = C} {others = others} {As = As} {B = B} i r h) = follows-none s others (rule_attempt ps C As B) h.answer f h.follows

elimination-none : (A : Algebra) (s : State) (fact : Theorem) (f : StepFault) → EliminationStep A s fact (Err f) → IsNone f
elimination-none A s fact f (EliminationStep.no_subgoal e) = λ d. cc
elimination-none A s fact f (EliminationStep.no_premise i r) = λ d. cc
elimination-none A s fact f (EliminationStep.tried {others = others} i r h) = first-none A _ s others _ f h

destruction-none : (A : Algebra) (s : State) (fact : Theorem) (f : StepFault) → DestructionStep A s fact (Err f) → IsNone f
destruction-none A s fact f (DestructionStep.no_subgoal e) = λ d. cc
destruction-none A s fact f (DestructionStep.no_premise i r) = λ d. cc
destruction-none A s fact f (DestructionStep.tried {others = others} i r h) = first-none A _ s others _ f h

assumption-none : (A : Algebra) (s : State) (f : StepFault) → AssumptionStep A s (Err f) → IsNone f
assumption-none A s f (AssumptionStep.no_subgoal e) = λ d. cc
assumption-none A s f (AssumptionStep.tried {others = others} i h) = first-none A _ s others _ f h

prefer-none : (s : State) (n : ℕ) (f : StepFault) → PreferStep s n (Err f) → IsNone f
prefer-none s n f (PreferStep.no_subgoal e) = λ d. cc
prefer-none s n f (PreferStep.preferred before B after stand count h) = becomes-none _ f h

defer-none : (s : State) (f : StepFault) → DeferStep s (Err f) → IsNone f
defer-none s f (DeferStep.no_subgoal e) = λ d. cc
defer-none s f (DeferStep.deferred B others stand h) = becomes-none _ f h

takes-none : (A : Algebra) (first now : Term) (fact : Theorem) (f : StepFault) → TakesFact A first now fact (Err f) → IsNone f
takes-none A first now fact f (TakesFact.no_definition h) = λ e. cc
takes-none A first now fact f (TakesFact.nothing h) = λ e. cc
takes-none A first now fact f (TakesFact.large h w) = λ e. cc

comes-none : (A : Algebra) (first now : Term) (facts : List Theorem) (f : StepFault) → ComesByFacts A first now facts (Err f) → IsNone f
comes-none A first now [] f h = elim h [ ]
comes-none A first now (fact ∷ facts) f (ComesByFacts.fails h) = takes-none A first now fact f h
comes-none A first now (fact ∷ facts) f (ComesByFacts.goes_on {u = u} h rest) = comes-none A first u facts f rest

unfold-none : (A : Algebra) (s : State) (facts : List Theorem) (f : StepFault) → UnfoldStep A s facts (Err f) → IsNone f
unfold-none A s facts f (UnfoldStep.no_subgoal e) = λ d. cc
unfold-none A s facts f (UnfoldStep.refused {first = first} e h) = comes-none A first first facts f h
unfold-none A s facts f (UnfoldStep.converted e h k) = becomes-none _ f k.becomes

ends_as-none : (s : State) (f : StepFault) → EndsAs s (Err f) → IsNone f
ends_as-none s f (EndsAs.subgoals_left e) = λ d. cc
ends_as-none s f (EndsAs.large e m w) = λ d. cc

module _ (L : LookUp) (Q : Content) where
  by_facts-none : (With : List Theorem → Outcome → Type 0) → ((facts : List Theorem) (f : StepFault) → With facts (Err f) → IsNone f) → (written : List (List ℕ)) (f : StepFault) → ByFactsOf L With written (Err f) → IsNone f
  by_facts-none With none written f (ByFactsOf.unknown h) = λ e. cc
  by_facts-none With none written f (ByFactsOf.known {facts = facts} found h) = none facts f h

  gives-none : (step : Step) (s : State) (f : StepFault) → GivesBy L Q step s (Err f) → IsNone f
  gives-none (Rule fact) s = by_facts-none (WithOne (RuleStep (algebra_of Q.declarations) s)) (λ facts f h. rule-none (algebra_of Q.declarations) s h.0 f h.2) (fact ∷ [])
  gives-none (Erule fact) s = by_facts-none (WithOne (EliminationStep (algebra_of Q.declarations) s)) (λ facts f h. elimination-none (algebra_of Q.declarations) s h.0 f h.2) (fact ∷ [])
  gives-none (Drule fact) s = by_facts-none (WithOne (DestructionStep (algebra_of Q.declarations) s)) (λ facts f h. destruction-none (algebra_of Q.declarations) s h.0 f h.2) (fact ∷ [])
  gives-none (Unfold facts) s = by_facts-none (UnfoldStep (algebra_of Q.declarations) s) (unfold-none (algebra_of Q.declarations) s) facts
  gives-none Assumption s = assumption-none (algebra_of Q.declarations) s
  gives-none (Prefer n) s = prefer-none s n
  gives-none Defer s = defer-none s
  gives-none Close s = λ f h. absurd h
  gives-none Done s = λ f h. absurd h

  ends-none : (number : ℕ) (s : State) (steps : List Step) (f : ProofFault) → EndsBy L Q number s steps (Failed f) → IsNone f.fault
  ends-none number s steps f (EndsBy.unfinished {f = g} h) = ends_as-none s g h
  ends-none number s steps f (EndsBy.closed {next = next} {steps = left} h rest) = ends-none number next left f rest
  ends-none number s steps f (EndsBy.refused {step = step} {f = g} h) = gives-none step s g h
  ends-none number s steps f (EndsBy.goes_on {next = next} {steps = left} h rest) = ends-none _ next left f rest

  never_by-memory : (statement : Term) (script : List Step) (f : ProofFault) → IsProofBy L Q statement script (Err f) → IsNone f.fault
  never_by-memory statement script f (IsProofBy.not_begun h) = λ e. cc
  never_by-memory statement script f (IsProofBy.failed {s = s} b h) = ends-none 1 s script f h

  rests_by-promised : FindsOver Q L → (statement : Term) (script : List Step) (labels : List Label) → IsProofBy L Q statement script (Ok labels) → Each (λ label. (A : Term) × IsPromise Q label A) labels
  rests_by-promised over statement script labels (IsProofBy.proved b h named) =
      each_of (λ label. (A : Term) × IsPromise Q label A) labels (λ label m. by label ((named.exactly label).0 m))
    where
      by : (label : Label) → IsNamedBy L script label → (A : Term) × IsPromise Q label A
      by label is =
          let step = any_some (λ step. AnyOf (MeansPromiseBy L label) (named_facts step)) script is in
          let written = any_some (MeansPromiseBy L label) (named_facts step.0) step.2 in
          let found = promised L Q over label written.0 written.2 in
          (found.0, (found.1, found.2))

pub never-memory : NeverMemory
never-memory texts Q = never_by-memory (IsFoundFact texts Q) Q

pub never_in-memory : NeverMemoryIn
never_in-memory texts Q lemma = never_by-memory (IsFoundLocal texts Q lemma) Q

pub rests-promised : RestsOnPromises
rests-promised texts Q = rests_by-promised (IsFoundFact texts Q) Q (everywhere-over texts Q)

pub rests_in-promised : RestsInOnPromises
rests_in-promised texts Q lemma = rests_by-promised (IsFoundLocal texts Q lemma) Q (in_lemma-over texts Q lemma)
