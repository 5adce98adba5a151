-- How far a proof has come, and what is known of it there.
use Rattle.std.specs.Prelude.{◌≡◌, ◌≢◌, MatchOption, ◌↔◌, ◌⊎◌, ◌≤◌, ℕ, ◌+◌, List, ◌∷◌, length, drop, count_by, Result, Ok, Err, Some, None}
use Rattle.pure_text.specs.Lists.{IsIn, AnyOf}
use Rattle.pure_definitions.specs.Names.{Label}
use Rattle.pure_grammar.specs.Theories.TheoryText.{Step}
use Rattle.pure_logic.specs.Content.{Content}
use Rattle.pure_logic.specs.Derivable.{Theorem}
use Rattle.pure_lookup.specs.Laws.{IsInSession}
use Rattle.pure_theorem.specs.Sets.{IsLabelSet}
use Rattle.pure_unify_laws.specs.Condition.{IsUnifyContent}
use Rattle.pure_resolve.specs.GoalSteps.State.{State, IsTheoremOf}
use Rattle.pure_resolve.specs.GoalSteps.Steps.{BeginsAs}
use Rattle.pure_resolve.specs.GoalSteps.declared.fault.StepFault.{StepFault}
use Rattle.pure_resolve.specs.GoalSteps.declared.fault.StepFault.TheVariants.{Big}
use Rattle.pure_resolve.specs.Goals.{IsStep}
use Rattle.pure_resolve.specs.Uses.{MayStep}
use Rattle.pure_resolve.specs.declared.state.Goal.{Goal}
use Rattle.pure_declare.specs.Notes.{Fork}
use Rattle.pure_declare.specs.Tidy.{IsTidy}
use Rattle.pure_method.specs.Facts.{named_facts, MeansPromiseIn, IsNamedIn}
use Rattle.pure_method.specs.Proof as proof
use Rattle.pure_method.specs.Proof.{Ending, Failed, GivesIn, EndsIn, IsProofIn}
use Rattle.pure_method.specs.Course.{LeadsIn, StopsIn, number_behind}
use Rattle.pure_method.specs.Outcomes.{IsScript}
use Rattle.pure_method.specs.Outcome.{is_numbered, IsOutcomeOf}
use Rattle.pure_method.specs.declared.outcome.Outcome.{Outcome}
use Rattle.pure_method.specs.declared.outcome.Outcome.TheVariants.{Proved, Fault}
use Rattle.pure_method.specs.declared.run.Run.{Run}
use Rattle.pure_method.specs.declared.run.Next.{Next}
use Rattle.pure_method.specs.declared.run.Next.TheVariants.{Goes, Ends as EndsWith}
use Rattle.pure_method.specs.declared.proving.Place.{Place}
use Rattle.pure_method.specs.declared.proving.Turn.{Turn}
use Rattle.pure_method.specs.declared.proving.Place.TheVariants.{Runs, Refused, Broken}
use Rattle.pure_method.specs.declared.proving.Proving.{Proving}

-- What the steps of a proof ask of the content beside goals: it is one of a session, terms are unified over it, and its facts are as commands store them.
pub record IsReady (texts : List (List ℕ)) (Q : Content) : Type 0 where
  pub in_session : IsInSession texts Q
  pub unify : IsUnifyContent Q
  pub tidy : IsTidy Q

-- A goal that rested on the old promises rests on the new ones: on these, and on those that the written names mean in the lemma.
pub record GainsNamed (texts : List (List ℕ)) (Q : Content) (lemma : ℕ) (written : List (List ℕ)) (old new : List Label) : Type 0 where
  pub ascend : IsLabelSet new
  pub exactly : (label : Label) → IsIn label new ↔ (IsIn label old ⊎ AnyOf (MeansPromiseIn texts Q lemma label) written)

-- The call's answer is what the step gives on the goal, in a proof in the lemma; the goal gains the promises that the step names.
abbrev pub IsStepIn : (texts : List (List ℕ)) → Content → (lemma : ℕ) → Step → (goal : Theorem) → Result Goal StepFault → Type 0
IsStepIn texts Q lemma step goal result = IsStep (λ s. GivesIn texts Q lemma step s) goal (GainsNamed texts Q lemma (named_facts step) goal.rests) result

-- The lemma's proof begins, and ends so.
pub record EndsWhole (texts : List (List ℕ)) (f : Fork) (end : Ending) : Type 0 where
  pub first : State
  pub begins : BeginsAs f.fixed (Ok first)
  pub ends : EndsIn texts f.content f.lemma 1 first f.script end

-- The lemma's proof has come to a goal with this theorem: the next step that has a number has this one, and these steps are left. However they end from there, so does the whole proof. On the goal steps may be made, and it rests on the promises that the steps so far name.
pub record HasCome (texts : List (List ℕ)) (f : Fork) (goal : Theorem) (number : ℕ) (left : List Step) : Type 0 where
  pub may : MayStep f.content goal
  pub ends : (s : State) → IsTheoremOf s goal → (end : Ending) → EndsIn texts f.content f.lemma number s left end → EndsWhole texts f end
  pub ascend : IsLabelSet goal.rests
  pub named : (label : Label) → IsNamedIn texts f.content f.lemma f.script label ↔ (IsIn label goal.rests ⊎ IsNamedIn texts f.content f.lemma left label)
  pub script : IsScript left
  pub few : number + count_by is_numbered left ≤ 1001

-- The same of what the program holds.
abbrev pub IsRun : (texts : List (List ℕ)) → Fork → Run → Type 0
IsRun texts f run = HasCome texts f run.goal.thm run.number (drop run.at f.script)

-- By one step the run has come further: on its state the step was made that comes next, and it leads to the state of the next run.
pub record IsFurther (texts : List (List ℕ)) (f : Fork) (run next : Run) : Type 0 where
  pub step : Step
  pub steps : List Step
  pub left : drop run.at f.script ≡ step ∷ steps
  pub behind : drop next.at f.script ≡ steps
  pub number : next.number ≡ number_behind run.number step
  pub before : State
  pub is_before : IsTheoremOf before run.goal.thm
  pub after : State
  pub is_after : IsTheoremOf after next.goal.thm
  pub leads : LeadsIn texts f.content f.lemma step before after

-- how a proof ends of which this comes
abbrev pub shown_ending : Outcome → Ending
shown_ending (Proved c) = proof.Proved
shown_ending (Fault step fault) = Failed (record { step = step; fault = fault })

-- With the step that comes next the proof ends so on the run's state.
abbrev pub StopsSo : (texts : List (List ℕ)) → Fork → Run → Outcome → Type 0
StopsSo texts f run outcome = (s : State) × IsTheoremOf s run.goal.thm × StopsIn texts f.content f.lemma run.number s (drop run.at f.script) (shown_ending outcome)

-- What a step leaves of a run: a run that is one step further; or the run, and what comes of the proof.
abbrev pub IsNext : (texts : List (List ℕ)) → Fork → Run → Next → Type 0
IsNext texts f run (Goes next) = IsRun texts f next × (next.at ≡ run.at + 1) × IsFurther texts f run next
IsNext texts f run (EndsWith same outcome) = IsRun texts f same × IsOutcomeOf texts f outcome × StopsSo texts f run outcome

-- What is known of where a proof stands: it runs; or no goal began with its statement; or it is broken by want of memory, and answers that from then on.
abbrev pub IsPlace : (texts : List (List ℕ)) → Fork → Place → Type 0
IsPlace texts f (Runs run) = IsRun texts f run
IsPlace texts f Refused = IsProofIn texts f.content f.lemma f.fixed f.script (Err (record { step = 0; fault = Big }))
IsPlace texts f Broken = Unit {0}

-- The same of a proof on its way.
abbrev pub Proves : (texts : List (List ℕ)) → Fork → Proving → Type 0
Proves texts f proving = IsPlace texts f proving.place

-- the count of the steps that are left, where a proof stands so
abbrev pub place_left : Fork → Place → ℕ
place_left f (Runs run) = length (drop run.at f.script)
place_left f Refused = 0
place_left f Broken = 0

-- the count of the steps that are left of a proof on its way
abbrev pub steps_left : Fork → Proving → ℕ
steps_left f proving = place_left f proving.place

-- The proof is broken by want of memory.
abbrev pub IsBroken : Proving → Type 0
IsBroken proving = proving.place ≡ Broken

-- The proof stands at its beginning: it runs, on the state with which the statement begins, and its first step has the number 1; or no goal began with the statement.
abbrev pub StandsFirst : Fork → Place → Type 0
StandsFirst f (Runs run) = (s : State) × BeginsAs f.fixed (Ok s) × IsTheoremOf s run.goal.thm × (run.at ≡ 0) × (run.number ≡ 1)
StandsFirst f Refused = (fault : StepFault) × BeginsAs f.fixed (Err fault)
StandsFirst f Broken = ⊥

-- By one step the proof has come from one place to the other.
abbrev pub LeadsOn : (texts : List (List ℕ)) → Fork → (old new : Place) → Type 0
LeadsOn texts f (Runs run) (Runs next) = IsFurther texts f run next
LeadsOn texts f _ _ = ⊥

-- With the next step the proof ends so at the place; where no goal began, with the fault of the step 0.
abbrev pub StopsAt : (texts : List (List ℕ)) → Fork → Place → Outcome → Type 0
StopsAt texts f (Runs run) outcome = StopsSo texts f run outcome
StopsAt texts f Refused outcome = outcome ≡ Fault 0 Big
StopsAt texts f Broken outcome = ⊥

-- What a step leaves of a place: one with one step less; or one, and what comes of the proof. It isn't broken. The one step leads from place to place, or ends the proof.
pub record IsTurn (texts : List (List ℕ)) (f : Fork) (place : Place) (turn : Turn) : Type 0 where
  pub stands : IsPlace texts f turn.place
  pub unbroken : turn.place ≢ Broken
  pub outcome : MatchOption turn.outcome (place_left f turn.place + 1 ≡ place_left f place) (IsOutcomeOf texts f)
  pub step : MatchOption turn.outcome (LeadsOn texts f place turn.place) (StopsAt texts f place)

-- the place behind a step that leaves this of a run, and what comes of the proof
abbrev pub turn_shown : Next → Turn
turn_shown (Goes run) = record { place = Runs run; outcome = None }
turn_shown (EndsWith run outcome) = record { place = Runs run; outcome = Some outcome }
