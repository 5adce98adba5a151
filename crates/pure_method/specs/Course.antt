-- The course of a proof: the states on which its steps are made, each from the one before by one step, and how the steps end.
use Rattle.std.specs.Prelude.{◌≡◌, ℕ, ◌+◌, List, [], ◌∷◌, Ok, Err, if◌then◌else◌}
use Rattle.pure_definitions.specs.Names.{Label}
use Rattle.pure_definitions.specs.Terms.Term.{Term}
use Rattle.pure_definitions.specs.Declarations.Decl.{algebra_of}
use Rattle.pure_grammar.specs.Theories.TheoryText.{Step, Close, Done}
use Rattle.pure_order_tables.specs.Classes.{IsAntisymmetric}
use Rattle.pure_logic.specs.Content.{Content, IsContent}
use Rattle.pure_logic.specs.Derivable.{Theorem}
use Rattle.pure_lookup.specs.LookUps.{IsFoundFact, IsFoundLocal}
use Rattle.pure_lookup.specs.Laws.{IsInSession}
use Rattle.pure_resolve.specs.GoalSteps.State.{State}
use Rattle.pure_resolve.specs.GoalSteps.Steps.{BeginsAs, EndsAs}
use Rattle.pure_resolve.specs.GoalSteps.declared.fault.StepFault.{StepFault}
use Rattle.pure_resolve.specs.GoalSteps.declared.fault.StepFault.TheVariants.{Big}
use Rattle.pure_method.specs.Facts.{LookUp, AreNamedBy}
use Rattle.pure_method.specs.Proof.{GivesBy, Closes, ProofFault, ProofOutcome, Ending, Proved, Failed, IsProofBy}
use Rattle.pure_method.specs.Outcome.{is_numbered}

-- The step leads from the state to the next: that which closes subgoals, to the one from which no more are closed; any other, to the one that it gives.
pub data LeadsBy (L : LookUp) (Q : Content) : Step → State → State → Type 0 where
  closes : {s next : State} → Closes (algebra_of Q.declarations) s next → LeadsBy L Q Close s next
  gives : {step : Step} {s next : State} → GivesBy L Q step s (Ok next) → LeadsBy L Q step s next

-- With the first of these steps, which has this number, the proof ends so on the state: it is the end, or is refused.
pub data StopsBy (L : LookUp) (Q : Content) (number : ℕ) (s : State) : List Step → Ending → Type 0 where
  finished : {th : Theorem} → EndsAs s (Ok th) → StopsBy L Q number s (Done ∷ []) Proved
  unfinished : {f : StepFault} → EndsAs s (Err f) → StopsBy L Q number s (Done ∷ []) (Failed (record { step = number; fault = f }))
  refused : {step : Step} {steps : List Step} {f : StepFault} → GivesBy L Q step s (Err f) → StopsBy L Q number s (step ∷ steps) (Failed (record { step = number; fault = f }))

-- the number of the next step that has one, behind a step
abbrev pub number_behind : (number : ℕ) → Step → ℕ
number_behind number step = if is_numbered step then number + 1 else number

-- On these states the steps are made, one after the other, and end so: the first state is given, and from each its step leads to the one behind it, but from the last, with whose step the proof ends.
pub data IsCourseBy (L : LookUp) (Q : Content) : (number : ℕ) → List State → List Step → Ending → Type 0 where
  stops : {number : ℕ} {s : State} {steps : List Step} {end : Ending} → StopsBy L Q number s steps end → IsCourseBy L Q number (s ∷ []) steps end
  leads : {number : ℕ} {step : Step} {s next : State} {states : List State} {steps : List Step} {end : Ending} → LeadsBy L Q step s next
      → IsCourseBy L Q (number_behind number step) (next ∷ states) steps end → IsCourseBy L Q number (s ∷ next ∷ states) (step ∷ steps) end

-- The course of the proof of a statement: where no goal begins with it there is no state, and else the first one is that with which it begins.
pub data IsProofCourseBy (L : LookUp) (Q : Content) (statement : Term) (script : List Step) : List State → Ending → Type 0 where
  not_begun : {f : StepFault} → BeginsAs statement (Err f) → IsProofCourseBy L Q statement script [] (Failed (record { step = 0; fault = Big }))
  begun : {s : State} {states : List State} {end : Ending} → BeginsAs statement (Ok s) → IsCourseBy L Q 1 (s ∷ states) script end → IsProofCourseBy L Q statement script (s ∷ states) end

-- how a proof ends that has this outcome
abbrev pub ending_of : ProofOutcome → Ending
ending_of (Ok labels) = Proved
ending_of (Err fault) = Failed fault

-- The end of a proof's course is its outcome: each proof with an outcome has a course that ends so; and what comes of a proof with a course is its fault, or, with the promises that its steps name, that it is proved.
pub record CourseEndsBy (L : LookUp) (Q : Content) (statement : Term) (script : List Step) : Type 0 where
  pub has_course : (outcome : ProofOutcome) → IsProofBy L Q statement script outcome → (states : List State) × IsProofCourseBy L Q statement script states (ending_of outcome)
  pub fails : (states : List State) (fault : ProofFault) → IsProofCourseBy L Q statement script states (Failed fault) → IsProofBy L Q statement script (Err fault)
  pub proves : (states : List State) (labels : List Label) → IsProofCourseBy L Q statement script states Proved → AreNamedBy L script labels → IsProofBy L Q statement script (Ok labels)

-- The same where facts are looked up over the content alone.
abbrev pub IsProofCourse : (texts : List (List ℕ)) → Content → (statement : Term) → (script : List Step) → List State → Ending → Type 0
IsProofCourse texts Q = IsProofCourseBy (IsFoundFact texts Q) Q

abbrev pub CourseEnds : (texts : List (List ℕ)) → Content → (statement : Term) → (script : List Step) → Type 0
CourseEnds texts Q = CourseEndsBy (IsFoundFact texts Q) Q

-- A proof has one course at most, over a content that a session gives, in whose order no two classes are below each other.
abbrev pub CourseOnce : Type 0
CourseOnce = (texts : List (List ℕ)) (Q : Content) → IsInSession texts Q → IsContent Q → IsAntisymmetric (algebra_of Q.declarations) → (statement : Term) (script : List Step) (one other : List State) (end last : Ending)
    → IsProofCourse texts Q statement script one end → IsProofCourse texts Q statement script other last → (one ≡ other) × (end ≡ last)

-- The same in the lemma of this name.
abbrev pub LeadsIn : (texts : List (List ℕ)) → Content → (lemma : ℕ) → Step → State → State → Type 0
LeadsIn texts Q lemma = LeadsBy (IsFoundLocal texts Q lemma) Q

abbrev pub StopsIn : (texts : List (List ℕ)) → Content → (lemma number : ℕ) → State → List Step → Ending → Type 0
StopsIn texts Q lemma = StopsBy (IsFoundLocal texts Q lemma) Q

abbrev pub IsCourseIn : (texts : List (List ℕ)) → Content → (lemma number : ℕ) → List State → List Step → Ending → Type 0
IsCourseIn texts Q lemma = IsCourseBy (IsFoundLocal texts Q lemma) Q

-- The course of a proof in the lemma; its end is the proof's outcome, and it is the only one.
abbrev pub IsProofCourseIn : (texts : List (List ℕ)) → Content → (lemma : ℕ) → (statement : Term) → (script : List Step) → List State → Ending → Type 0
IsProofCourseIn texts Q lemma = IsProofCourseBy (IsFoundLocal texts Q lemma) Q

abbrev pub CourseEndsIn : Type 0
CourseEndsIn = (texts : List (List ℕ)) (Q : Content) (lemma : ℕ) (statement : Term) (script : List Step) → CourseEndsBy (IsFoundLocal texts Q lemma) Q statement script

abbrev pub CourseInOnce : Type 0
CourseInOnce = (texts : List (List ℕ)) (Q : Content) → IsInSession texts Q → IsContent Q → IsAntisymmetric (algebra_of Q.declarations) → (lemma : ℕ) (statement : Term) (script : List Step) (one other : List State) (end last : Ending)
    → IsProofCourseIn texts Q lemma statement script one end → IsProofCourseIn texts Q lemma statement script other last → (one ≡ other) × (end ≡ last)
