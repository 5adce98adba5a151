-- Proofs: what comes of a statement and the steps of its proof (Isabelle/Isar Implementation manual, chapter 4). No theorem of the kernel and no inference is in it. How facts are looked up by their names is given.
use Rattle.std.specs.Prelude.{◌≡◌, ℕ, ◌+◌, List, [], ◌∷◌, Result, Ok, Err}
use Rattle.pure_text.specs.Lists.{EachTwo, AnyOf}
use Rattle.pure_definitions.specs.Names.{Label}
use Rattle.pure_definitions.specs.Terms.Term.{Term}
use Rattle.pure_definitions.specs.Types.Order.{Algebra}
use Rattle.pure_definitions.specs.Declarations.Decl.{algebra_of}
use Rattle.pure_grammar.specs.Theories.TheoryText.{Step, Rule, Erule, Drule, Assumption, Unfold, Prefer, Defer, Close, Done}
use Rattle.pure_logic.specs.Content.{Content}
use Rattle.pure_logic.specs.Derivable.{Theorem}
use Rattle.pure_lookup.specs.LookUps.{IsFoundFact, IsFoundLocal}
use Rattle.pure_resolve.specs.GoalSteps.State.{State}
use Rattle.pure_resolve.specs.GoalSteps.Follows.{Outcome}
use Rattle.pure_resolve.specs.GoalSteps.Steps.{BeginsAs, RuleStep, EliminationStep, DestructionStep, AssumptionStep, PreferStep, DeferStep, EndsAs}
use Rattle.pure_resolve.specs.GoalSteps.declared.fault.StepFault.{StepFault}
use Rattle.pure_resolve.specs.GoalSteps.declared.fault.StepFault.TheVariants as fault
use Rattle.pure_method.specs.Facts.{LookUp, IsFoundBy, IsUnknownBy, AreNamedBy}
use Rattle.pure_method.specs.Unfolding.{UnfoldStep}

-- Of a step that names facts: it looks them up first, in order, and is refused where one isn't found; otherwise it is what it is with these theorems.
pub data ByFactsOf (L : LookUp) (With : List Theorem → Outcome → Type 0) (written : List (List ℕ)) : Outcome → Type 0 where
  unknown : AnyOf (IsUnknownBy L) written → ByFactsOf L With written (Err fault.UnknownFact)
  known : {facts : List Theorem} {outcome : Outcome} → EachTwo (IsFoundBy L) written facts → With facts outcome → ByFactsOf L With written outcome

-- Of a step that takes one fact.
abbrev pub WithOne : (Theorem → Outcome → Type 0) → List Theorem → Outcome → Type 0
WithOne With facts outcome = (fact : Theorem) × (facts ≡ fact ∷ []) × With fact outcome

-- What a step gives on a state. That which closes subgoals and that which ends the proof give no outcome of their own.
abbrev pub GivesBy : LookUp → Content → Step → State → Outcome → Type 0
GivesBy L Q (Rule fact) s outcome = ByFactsOf L (WithOne (RuleStep (algebra_of Q.declarations) s)) (fact ∷ []) outcome
GivesBy L Q (Erule fact) s outcome = ByFactsOf L (WithOne (EliminationStep (algebra_of Q.declarations) s)) (fact ∷ []) outcome
GivesBy L Q (Drule fact) s outcome = ByFactsOf L (WithOne (DestructionStep (algebra_of Q.declarations) s)) (fact ∷ []) outcome
GivesBy L Q (Unfold facts) s outcome = ByFactsOf L (UnfoldStep (algebra_of Q.declarations) s) facts outcome
GivesBy L Q Assumption s outcome = AssumptionStep (algebra_of Q.declarations) s outcome
GivesBy L Q (Prefer n) s outcome = PreferStep s n outcome
GivesBy L Q Defer s outcome = DeferStep s outcome
GivesBy L Q Close s outcome = ⊥
GivesBy L Q Done s outcome = ⊥

-- The first subgoal is proved by assumption, and so on with the next, as long as there is one and this succeeds. A failure, of whatever kind, ends it and is no fault.
pub data Closes (A : Algebra) : State → State → Type 0 where
  stops : {s : State} {f : StepFault} → AssumptionStep A s (Err f) → Closes A s s
  goes_on : {s next last : State} → AssumptionStep A s (Ok next) → Closes A next last → Closes A s last

-- a fault of a proof: the number of the step that fails, and why it does
pub record ProofFault : Type 0 where
  pub step : ℕ
  pub fault : StepFault

-- what comes of a proof: the promises on which it rests, or its fault
abbrev pub ProofOutcome : Type 0
ProofOutcome = Result (List Label) ProofFault

-- how the steps of a proof end: with the statement proved, or with a fault
pub data Ending : Type 0 where
  Proved : Ending
  Failed : ProofFault → Ending

-- From a state the steps end so; the next step that has a number has this one. Each step but that which closes subgoals has a number. A proof `by` methods has their steps, then that which closes, then the end.
-- The end is a step too: it finishes the goal, and refuses where a subgoal is left. No step comes after it.
pub data EndsBy (L : LookUp) (Q : Content) : (number : ℕ) → State → List Step → Ending → Type 0 where
  finished : {number : ℕ} {s : State} {th : Theorem} → EndsAs s (Ok th) → EndsBy L Q number s (Done ∷ []) Proved
  unfinished : {number : ℕ} {s : State} {f : StepFault} → EndsAs s (Err f) → EndsBy L Q number s (Done ∷ []) (Failed (record { step = number; fault = f }))
  closed : {number : ℕ} {s next : State} {steps : List Step} {end : Ending} → Closes (algebra_of Q.declarations) s next → EndsBy L Q number next steps end → EndsBy L Q number s (Close ∷ steps) end
  refused : {number : ℕ} {s : State} {step : Step} {steps : List Step} {f : StepFault} → GivesBy L Q step s (Err f) → EndsBy L Q number s (step ∷ steps) (Failed (record { step = number; fault = f }))
  goes_on : {number : ℕ} {s next : State} {step : Step} {steps : List Step} {end : Ending} → GivesBy L Q step s (Ok next) → EndsBy L Q (number + 1) next steps end → EndsBy L Q number s (step ∷ steps) end

-- What comes of the proof of a statement: the fault 0, too large, where no goal begins with it, since it has no long form within the limits or the goal's proposition isn't within them; the fault of the first step that fails, steps being counted from 1;
-- or the promises that its steps name, since each fact that is named is used. The statement has fixed variables; it is proved of all of them, so that they become schematic.
pub data IsProofBy (L : LookUp) (Q : Content) (statement : Term) (script : List Step) : ProofOutcome → Type 0 where
  not_begun : {f : StepFault} → BeginsAs statement (Err f) → IsProofBy L Q statement script (Err (record { step = 0; fault = fault.Big }))
  failed : {s : State} {f : ProofFault} → BeginsAs statement (Ok s) → EndsBy L Q 1 s script (Failed f) → IsProofBy L Q statement script (Err f)
  proved : {s : State} {labels : List Label} → BeginsAs statement (Ok s) → EndsBy L Q 1 s script Proved → AreNamedBy L script labels → IsProofBy L Q statement script (Ok labels)

-- What comes of a proof where facts are looked up over the content alone, which finds none that is local to a lemma.
abbrev pub IsProof : (texts : List (List ℕ)) → Content → (statement : Term) → (script : List Step) → ProofOutcome → Type 0
IsProof texts Q = IsProofBy (IsFoundFact texts Q) Q

-- The same in the lemma of this name: facts that are local to the lemma are found first.
abbrev pub ByFactsIn : (texts : List (List ℕ)) → Content → (lemma : ℕ) → (List Theorem → Outcome → Type 0) → (written : List (List ℕ)) → Outcome → Type 0
ByFactsIn texts Q lemma = ByFactsOf (IsFoundLocal texts Q lemma)

abbrev pub GivesIn : (texts : List (List ℕ)) → Content → (lemma : ℕ) → Step → State → Outcome → Type 0
GivesIn texts Q lemma = GivesBy (IsFoundLocal texts Q lemma) Q

abbrev pub EndsIn : (texts : List (List ℕ)) → Content → (lemma number : ℕ) → State → List Step → Ending → Type 0
EndsIn texts Q lemma = EndsBy (IsFoundLocal texts Q lemma) Q

abbrev pub IsProofIn : (texts : List (List ℕ)) → Content → (lemma : ℕ) → (statement : Term) → (script : List Step) → ProofOutcome → Type 0
IsProofIn texts Q lemma = IsProofBy (IsFoundLocal texts Q lemma) Q
