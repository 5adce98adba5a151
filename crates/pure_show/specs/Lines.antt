-- What is shown of a proof's course: a line for each step, the state on which it is made, and how the proof ends.
use Rattle.std.specs.Prelude.{ℕ, ◌+◌, ◌-◌, Bool, true, false, List, [], ◌∷◌, ◌++◌, length, Option, Some, None, codes, nat_le, if◌then◌else◌}
use Rattle.std.specs.Fmt.{decimal}
use Rattle.pure_definitions.specs.Terms.Term.{Term}
use Rattle.pure_grammar.specs.Theories.TheoryText.{Step, Rule, Erule, Drule, Assumption, Unfold, Prefer, Defer, Close, Done}
use Rattle.pure_logic.specs.Derivable.{Pair}
use Rattle.pure_print.specs.TermText.{state_text}
use Rattle.pure_promise.specs.RowText.{fault_text}
use Rattle.pure_resolve.specs.GoalSteps.State.{State}
use Rattle.pure_resolve.specs.GoalSteps.declared.fault.StepFault.{StepFault}
use Rattle.pure_theory_run.specs.Method.Course.{number_behind}
use Rattle.pure_theory_run.specs.Method.Outcome.{is_numbered}
use Rattle.pure_theory_run.specs.Method.Proof.{Ending, Proved, Failed}

-- each name as it is written, behind a blank
abbrev pub names_text : List (List ℕ) → List ℕ
names_text [] = []
names_text (x ∷ xs) = 32 ∷ (x ++ names_text xs)

-- a step as it is written
abbrev pub step_words : Step → List ℕ
step_words (Rule fact) = codes "rule " ++ fact
step_words (Erule fact) = codes "erule " ++ fact
step_words (Drule fact) = codes "drule " ++ fact
step_words Assumption = codes "assumption"
step_words (Unfold facts) = codes "unfold" ++ names_text facts
step_words (Prefer n) = codes "prefer " ++ decimal n
step_words Defer = codes "defer"
step_words Close = []
step_words Done = codes "done"

-- what stands before a step's place, `step 3 at `, and, of that which closes subgoals and has no number, `close at `
abbrev pub before_place : (number : ℕ) → Step → List ℕ
before_place number step = if is_numbered step then codes "step " ++ (decimal number ++ codes " at ") else codes "close at "

-- what stands behind it
abbrev pub behind_place : Step → List ℕ
behind_place step = if is_numbered step then codes ": " ++ (step_words step ++ 10 ∷ []) else 10 ∷ []

-- The line of a step: `step 3 at 4:20: rule pa`. That which closes subgoals has the place of the next step, the end that `by` makes.
abbrev pub step_line : (place : ℕ → List ℕ) → (number : ℕ) → Step → List ℕ
step_line place number step = before_place number step ++ (place number ++ behind_place step)

-- the subgoals, from this number on: `  1. A.P x`
abbrev pub subgoal_lines : (texts : List (List ℕ)) → (number : ℕ) → List Term → List ℕ
subgoal_lines texts number [] = []
subgoal_lines texts number (A ∷ As) = codes "  " ++ (decimal number ++ (codes ". " ++ (state_text texts A ++ (10 ∷ subgoal_lines texts (number + 1) As))))

-- the flex-flex pairs: `  pair ?x and ?f ?y`
abbrev pub pair_lines : (texts : List (List ℕ)) → List Pair → List ℕ
pair_lines texts [] = []
pair_lines texts (p ∷ ps) = codes "  pair " ++ (state_text texts p.left ++ (codes " and " ++ (state_text texts p.right ++ (10 ∷ pair_lines texts ps))))

-- the lines of a state
abbrev pub state_lines : (texts : List (List ℕ)) → State → List ℕ
state_lines texts s = subgoal_lines texts 1 s.subgoals ++ pair_lines texts s.pairs

-- The room that is left for the lines of states, in bytes; none once a state didn't fit.
abbrev pub Room : Type 0
Room = Option ℕ

-- 64 MB for the lines of all states
abbrev pub limit : ℕ
limit = 67108864

abbrev pub fits : Room → List ℕ → Bool
fits None lines = false
fits (Some room) lines = nat_le (length lines) room

-- the room behind a state with these lines
abbrev pub room_behind : Room → List ℕ → Room
room_behind None lines = None
room_behind (Some room) lines = if nat_le (length lines) room then Some (room - length lines) else None

-- the lines of a state, or one line in their place where they don't fit
abbrev pub written_lines : Room → List ℕ → List ℕ
written_lines room lines = if fits room lines then lines else (codes "  state too large" ++ 10 ∷ [])

-- each step's line and behind it the lines of the state on which it is made
abbrev pub course_lines : (texts : List (List ℕ)) → (place : ℕ → List ℕ) → Room → (number : ℕ) → List State → List Step → List ℕ
course_lines texts place room number [] steps = []
course_lines texts place room number (s ∷ states) [] = []
course_lines texts place room number (s ∷ states) (step ∷ steps) =
    step_line place number step ++ (written_lines room (state_lines texts s)
    ++ course_lines texts place (room_behind room (state_lines texts s)) (number_behind number step) states steps)

-- the room that all of these states leave
abbrev pub room_left : (texts : List (List ℕ)) → Room → List State → Room
room_left texts room [] = room
room_left texts room (s ∷ states) = room_left texts (room_behind room (state_lines texts s)) states

-- `step 1: no unifier`
abbrev pub fault_line : (step : ℕ) → StepFault → List ℕ
fault_line step fault = codes "step " ++ (decimal step ++ (codes ": " ++ (fault_text fault ++ 10 ∷ [])))

-- how the proof ends: `done`, or with the fault of a step
abbrev pub end_line : Ending → List ℕ
end_line Proved = codes "done" ++ 10 ∷ []
end_line (Failed f) = fault_line f.step f.fault

-- `lemma A.pc: A.P A.a`
abbrev pub lemma_line : (texts : List (List ℕ)) → (name : List ℕ) → (statement : Term) → List ℕ
lemma_line texts name statement = codes "lemma " ++ (name ++ (codes ": " ++ (state_text texts statement ++ 10 ∷ [])))

-- What is shown of a lemma whose proof has this course. A step with a number has this place.
abbrev pub course_text : (texts : List (List ℕ)) → (place : ℕ → List ℕ) → (name : List ℕ) → (statement : Term) → (script : List Step) → List State → Ending → List ℕ
course_text texts place name statement script states end = lemma_line texts name statement ++ (course_lines texts place (Some limit) 1 states script ++ end_line end)

-- It is clean where the lemma is proved and each state fits.
abbrev pub is_clean : Room → Ending → Bool
is_clean (Some room) Proved = true
is_clean _ end = false
