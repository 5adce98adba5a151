-- Courses of proofs: each proof has one, it ends as the proof does, and it is the only one.
use Rattle.std.proofs.Common.{◌≡◌, ℕ, ◌+◌, List, [], ◌∷◌, true, refl, sym, subst}
use Rattle.std.specs.Prelude.{Ok, Err}
use Rattle.pure_definitions.specs.Names.{Label}
use Rattle.pure_definitions.specs.Terms.Term.{Term}
use Rattle.pure_definitions.specs.Declarations.Decl.{algebra_of}
use Rattle.pure_grammar.specs.Theories.TheoryText.{Step, Rule, Erule, Drule, Assumption, Unfold, Prefer, Defer, Close, Done}
use Rattle.pure_order_tables.specs.Classes.{IsAntisymmetric}
use Rattle.pure_logic.specs.Content.{Content}
use Rattle.pure_lookup.specs.LookUps.{IsFoundFact, IsFoundLocal}
use Rattle.pure_resolve.specs.GoalSteps.State.{State}
use Rattle.pure_resolve.specs.GoalSteps.Follows.{Outcome}
use Rattle.pure_method.specs.Facts.{LookUp, AreNamedBy}
use Rattle.pure_method.specs.Proof.{GivesBy, ProofFault, ProofOutcome, Ending, Proved, Failed, EndsBy, IsProofBy}
use Rattle.pure_method.specs.Outcome.{is_numbered}
use Rattle.pure_method.specs.Course.{LeadsBy, StopsBy, number_behind, IsCourseBy, IsProofCourseBy, ending_of, CourseEndsBy, CourseEnds, CourseOnce, CourseEndsIn, CourseInOnce}
use Rattle.pure_method.proofs.FactLaws.{IsOnce, everywhere-once, in_lemma-once}
use Rattle.pure_method.proofs.OnceLaws.{ok-same, not-both, gives-once, closes-once, ends-once, begins-same, begins-both}

pub behind-numbered : (number : ℕ) (step : Step) → is_numbered step ≡ true → number_behind number step ≡ number + 1
behind-numbered number step e = rw e refl

module _ (L : LookUp) (Q : Content) where
  -- A step that gives an outcome has a number.
  given-numbered : (number : ℕ) (step : Step) (s : State) (outcome : Outcome) → GivesBy L Q step s outcome → number_behind number step ≡ number + 1
  given-numbered number (Rule fact) s outcome h = refl
  given-numbered number (Erule fact) s outcome h = refl
  given-numbered number (Drule fact) s outcome h = refl
  given-numbered number Assumption s outcome h = refl
  given-numbered number (Unfold facts) s outcome h = refl
  given-numbered number (Prefer n) s outcome h = refl
  given-numbered number Defer s outcome h = refl
  given-numbered number Close s outcome h = absurd h
  given-numbered number Done s outcome h = absurd h

  -- As a course ends, so do its steps.
  pub course-ends : (number : ℕ) (s : State) (states : List State) (steps : List Step) (end : Ending) → IsCourseBy L Q number (s ∷ states) steps end → EndsBy L Q number s steps end
  course-ends number s states steps end (IsCourseBy.stops (StopsBy.finished h)) = EndsBy.finished h
  course-ends number s states steps end (IsCourseBy.stops (StopsBy.unfinished h)) = EndsBy.unfinished h
  course-ends number s states steps end (IsCourseBy.stops (StopsBy.refused h)) = EndsBy.refused h
  course-ends number s states steps end (IsCourseBy.leads {next = next} {states = more} {steps = left} (LeadsBy.closes h) rest) = EndsBy.closed h (course-ends number next more left end rest)
  course-ends number s states steps end (IsCourseBy.leads {step = step} {next = next} {states = more} {steps = left} (LeadsBy.gives h) rest) =
      EndsBy.goes_on h (subst (λ (n : ℕ). EndsBy L Q n next left end) (given-numbered number step s (Ok next) h) (course-ends (number_behind number step) next more left end rest))

  -- And steps that end so have a course.
  pub has-course : (number : ℕ) (s : State) (steps : List Step) (end : Ending) → EndsBy L Q number s steps end → (states : List State) × IsCourseBy L Q number (s ∷ states) steps end
  has-course number s steps end (EndsBy.finished h) = ([], IsCourseBy.stops (StopsBy.finished h))
  has-course number s steps end (EndsBy.unfinished h) = ([], IsCourseBy.stops (StopsBy.unfinished h))
  has-course number s steps end (EndsBy.closed {next = next} {steps = left} h rest) =
      let more = has-course number next left end rest in
      (next ∷ more.0, IsCourseBy.leads (LeadsBy.closes h) more.1)
  has-course number s steps end (EndsBy.refused h) = ([], IsCourseBy.stops (StopsBy.refused h))
  has-course number s steps end (EndsBy.goes_on {next = next} {step = step} {steps = left} h rest) =
      let more = has-course (number + 1) next left end rest in
      (next ∷ more.0, IsCourseBy.leads (LeadsBy.gives h) (subst (λ (n : ℕ). IsCourseBy L Q n (next ∷ more.0) left end) (sym (given-numbered number step s (Ok next) h)) more.1))

  module _ (statement : Term) (script : List Step) where
    proof-has_course : (outcome : ProofOutcome) → IsProofBy L Q statement script outcome → (states : List State) × IsProofCourseBy L Q statement script states (ending_of outcome)
    proof-has_course outcome (IsProofBy.not_begun h) = ([], IsProofCourseBy.not_begun h)
    proof-has_course outcome (IsProofBy.failed {s = s} {f = f} b e) = let more = has-course 1 s script (Failed f) e in (s ∷ more.0, IsProofCourseBy.begun b more.1)
    proof-has_course outcome (IsProofBy.proved {s = s} b e n) = let more = has-course 1 s script Proved e in (s ∷ more.0, IsProofCourseBy.begun b more.1)

    never-proved : (f : ProofFault) → Failed f ≡ Proved → ⊥
    never-proved f e = cc

    same-fault : (f g : ProofFault) → Failed f ≡ Failed g → f ≡ g
    same-fault f g e = cc

    course-fails : (states : List State) (end : Ending) → IsProofCourseBy L Q statement script states end → (fault : ProofFault) → end ≡ Failed fault → IsProofBy L Q statement script (Err fault)
    course-fails states end (IsProofCourseBy.not_begun h) fault e = subst (λ (f : ProofFault). IsProofBy L Q statement script (Err f)) (same-fault _ fault e) (IsProofBy.not_begun h)
    course-fails states end (IsProofCourseBy.begun {s = s} {states = more} b c) fault e = IsProofBy.failed b (subst (λ (x : Ending). EndsBy L Q 1 s script x) e (course-ends 1 s more script end c))

    course-proves : (states : List State) (end : Ending) → IsProofCourseBy L Q statement script states end → end ≡ Proved → (labels : List Label) → AreNamedBy L script labels → IsProofBy L Q statement script (Ok labels)
    course-proves states end (IsProofCourseBy.not_begun h) e labels n = absurd (never-proved _ e)
    course-proves states end (IsProofCourseBy.begun {s = s} {states = more} b c) e labels n = IsProofBy.proved b (subst (λ (x : Ending). EndsBy L Q 1 s script x) e (course-ends 1 s more script end c)) n

course_ends-by : (L : LookUp) (Q : Content) (statement : Term) (script : List Step) → CourseEndsBy L Q statement script
course_ends-by L Q statement script = record {
  has_course = proof-has_course L Q statement script;
  fails = λ states fault c. course-fails L Q statement script states (Failed fault) c fault refl;
  proves = λ states labels c n. course-proves L Q statement script states Proved c refl labels n;
}

pub course_ends : (texts : List (List ℕ)) (Q : Content) (statement : Term) (script : List Step) → CourseEnds texts Q statement script
course_ends texts Q = course_ends-by (IsFoundFact texts Q) Q

module _ (L : LookUp) (Q : Content) (once_found : IsOnce L) (anti : IsAntisymmetric (algebra_of Q.declarations)) where
  -- A step leads to one state,
  leads-once : (step : Step) (s one other : State) → LeadsBy L Q step s one → LeadsBy L Q step s other → one ≡ other
  leads-once step s one other (LeadsBy.closes h) (LeadsBy.closes k) = closes-once L Q once_found anti s one other h k
  leads-once step s one other (LeadsBy.closes h) (LeadsBy.gives k) = absurd k
  leads-once step s one other (LeadsBy.gives h) (LeadsBy.closes k) = absurd h
  leads-once step s one other (LeadsBy.gives h) (LeadsBy.gives k) = ok-same one other (gives-once L Q once_found anti step s (Ok one) (Ok other) h k)

  -- or the proof ends with it.
  stops-or_leads : (number : ℕ) (s next : State) (step : Step) (steps : List Step) (end : Ending) → StopsBy L Q number s (step ∷ steps) end → LeadsBy L Q step s next → ⊥
  stops-or_leads number s next step steps end (StopsBy.finished h) (LeadsBy.gives k) = k
  stops-or_leads number s next step steps end (StopsBy.unfinished h) (LeadsBy.gives k) = k
  stops-or_leads number s next step steps end (StopsBy.refused h) (LeadsBy.closes k) = h
  stops-or_leads number s next step steps end (StopsBy.refused {f = f} h) (LeadsBy.gives k) = not-both next f (gives-once L Q once_found anti step s (Ok next) (Err f) k h)

  states-once : (number : ℕ) (s : State) (one other : List State) (steps : List Step) (end last : Ending) → IsCourseBy L Q number (s ∷ one) steps end → IsCourseBy L Q number (s ∷ other) steps last → one ≡ other
  states-once number s one other steps end last (IsCourseBy.stops h) (IsCourseBy.stops k) = refl
  states-once number s one other steps end last (IsCourseBy.stops h) (IsCourseBy.leads {step = step} {next = next} {steps = left} k rest) = absurd (stops-or_leads number s next step left end h k)
  states-once number s one other steps end last (IsCourseBy.leads {step = step} {next = next} {steps = left} h rest) (IsCourseBy.stops k) = absurd (stops-or_leads number s next step left last k h)
  states-once number s one other steps end last (IsCourseBy.leads {step = step} {next = next} {states = more} {steps = left} h rest) (IsCourseBy.leads {next = then} {states = others} k also_rest) =
      let same : then ≡ next = leads-once step s then next k h in
      let same_rest : more ≡ others = states-once (number_behind number step) next more others left end last rest (subst (λ (x : State). IsCourseBy L Q (number_behind number step) (x ∷ others) left last) same also_rest) in
      λ i. sym same i ∷ same_rest i

  course_by-once : (statement : Term) (script : List Step) (one other : List State) (end last : Ending) → IsProofCourseBy L Q statement script one end → IsProofCourseBy L Q statement script other last → (one ≡ other) × (end ≡ last)
  course_by-once statement script one other end last (IsProofCourseBy.not_begun h) (IsProofCourseBy.not_begun k) = (refl, refl)
  course_by-once statement script one other end last (IsProofCourseBy.not_begun {f = f} h) (IsProofCourseBy.begun {s = s} b c) = absurd (begins-both L Q once_found anti statement s f b h)
  course_by-once statement script one other end last (IsProofCourseBy.begun {s = s} b c) (IsProofCourseBy.not_begun {f = f} h) = absurd (begins-both L Q once_found anti statement s f b h)
  course_by-once statement script one other end last (IsProofCourseBy.begun {s = s} {states = more} b c) (IsProofCourseBy.begun {s = t} {states = others} d e) =
      let same : t ≡ s = begins-same L Q once_found anti statement s t b d in
      let here : IsCourseBy L Q 1 (s ∷ others) script last = subst (λ (x : State). IsCourseBy L Q 1 (x ∷ others) script last) same e in
      let lists : more ≡ others = states-once 1 s more others script end last c here in (
        λ i. sym same i ∷ lists i,
        ends-once L Q once_found anti 1 s script end last (course-ends L Q 1 s more script end c) (course-ends L Q 1 s others script last here),
      )

pub course_once : CourseOnce
course_once texts Q session q anti = course_by-once (IsFoundFact texts Q) Q (everywhere-once texts Q session q) anti

pub course_in-ends : CourseEndsIn
course_in-ends texts Q lemma = course_ends-by (IsFoundLocal texts Q lemma) Q

pub course_in-once : CourseInOnce
course_in-once texts Q session q anti lemma = course_by-once (IsFoundLocal texts Q lemma) Q (in_lemma-once texts Q session q lemma) anti
