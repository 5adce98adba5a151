-- What was written of a proof on its way; private contracts alone cite this.
use Rattle.std.specs.Prelude.{◌≡◌, ℕ, List, ◌∷◌, ◌++◌, drop}
use Rattle.pure_grammar.specs.Theories.TheoryText.{Step}
use Rattle.pure_resolve.specs.GoalSteps.State.{State, IsTheoremOf}
use Rattle.pure_resolve.specs.GoalSteps.declared.fault.StepFault.TheVariants.{Big}
use Rattle.pure_theory_run.specs.Declare.Notes.{Fork}
use Rattle.pure_theory_run.specs.Method.Course.{IsCourseIn}
use Rattle.pure_theory_run.specs.Method.Proof.{Ending, Failed}
use Rattle.pure_theory_run.specs.Method.declared.proving.Place.{Place}
use Rattle.pure_theory_run.specs.Method.declared.proving.Place.TheVariants.{Runs, Refused, Broken}
use Rattle.pure_theory_run.specs.Method.declared.run.Run.{Run}
use Rattle.pure_show.specs.Answers.{IsCourseText}
use Rattle.pure_show.specs.declared.page.Page.{Page}
use Rattle.pure_show.specs.Lines.{Room, course_lines, end_line, is_clean, room_behind, room_left, state_lines, step_line, written_lines}

-- what was written so far, and the room that is left for states
pub record Written : Type 0 where
  pub text : List ℕ
  pub room : Room

abbrev pub seen_page : Page → Written
seen_page p = record { text = p.text.items; room = p.room }

-- However the proof ends from here, what was written, with this end behind it, shows the whole course.
abbrev pub EndsShown : (texts : List (List ℕ)) → Fork → (name : List ℕ) → (place : ℕ → List ℕ) → Written → Ending → Type 0
EndsShown texts f name place w end = IsCourseText texts f name place (w.text ++ end_line end) (is_clean w.room end)

-- So is it with each course from the run's state on, where its lines are written behind.
abbrev pub RunShown : (texts : List (List ℕ)) → Fork → (name : List ℕ) → (place : ℕ → List ℕ) → Written → Run → Type 0
RunShown texts f name place w run = (s : State) → IsTheoremOf s run.goal.thm → (rest : List State) (end : Ending) → IsCourseIn texts f.content f.lemma run.number (s ∷ rest) (drop run.at f.script) end
    → EndsShown texts f name place (record { text = w.text ++ course_lines texts place w.room run.number (s ∷ rest) (drop run.at f.script); room = room_left texts w.room (s ∷ rest) }) end

-- The same of a place; where no goal began, the proof ends with the fault of the step 0.
abbrev pub IsOnItsWay : (texts : List (List ℕ)) → Fork → (name : List ℕ) → (place : ℕ → List ℕ) → Written → Place → Type 0
IsOnItsWay texts f name place w (Runs run) = RunShown texts f name place w run
IsOnItsWay texts f name place w Refused = EndsShown texts f name place w (Failed (record { step = 0; fault = Big }))
IsOnItsWay texts f name place w Broken = Unit {0}

-- A step with this number was written, and the state on which it is made.
abbrev pub IsPushed : (texts : List (List ℕ)) → (place : ℕ → List ℕ) → (old new : Written) → (number : ℕ) → Step → State → Type 0
IsPushed texts place old new number step s =
    (new.text ≡ old.text ++ (step_line place number step ++ written_lines old.room (state_lines texts s))) × (new.room ≡ room_behind old.room (state_lines texts s))

-- The run's next step was written so.
abbrev pub IsStepWritten : (texts : List (List ℕ)) → Fork → (place : ℕ → List ℕ) → (old new : Written) → Run → Type 0
IsStepWritten texts f place old new run = (step : Step) (steps : List Step) → drop run.at f.script ≡ step ∷ steps → (s : State) → IsTheoremOf s run.goal.thm → IsPushed texts place old new run.number step s

-- The same at a place; where no goal began, nothing was written.
abbrev pub IsPlaceWritten : (texts : List (List ℕ)) → Fork → (place : ℕ → List ℕ) → (old new : Written) → Place → Type 0
IsPlaceWritten texts f place old new (Runs run) = IsStepWritten texts f place old new run
IsPlaceWritten texts f place old new Refused = new ≡ old
IsPlaceWritten texts f place old new Broken = new ≡ old
