-- What the calls of a board tell a seat.
use Rattle.std.specs.Prelude.{◌≡◌, ℕ, List, map, length, Bool, true, slice_get}
use Rattle.pure_machine.specs.State.{State, Promise, Event, TakeTheory, TakeProof, Fork, Deliver}
use Rattle.pure_machine.specs.Step.{IsReady, Stands, IsIdle, IsFinished, is_cancelled_promise}
use Rattle.pure_machine.specs.Calls.{delivered_as}
use Rattle.pure_machine.specs.declared.answers.Task as task
use Rattle.pure_machine.specs.declared.answers.Task.TheVariants as task_code
use Rattle.pure_machine.specs.declared.answers.Delivered as delivered
use Rattle.pure_core_runs.specs.Seats.{state_of}
use Rattle.pure_board.specs.Sight.{Sight, Sees, Enters}

-- the state to which what the seat saw leads
abbrev pub state_seen : {W G C O : Type 0} → Sight W G C O → State G C O
state_seen v = state_of v.opening v.seen

-- The promise of this number has the goal.
abbrev pub IsGoalOf : {G C O : Type 0} → State G C O → (number : ℕ) → G → Type 0
IsGoalOf {G} {C} {O} s n g = (p : Promise G O) × Stands s n p × (p.goal ≡ g)

-- What is taken: a theory, with the values of its parents, or a proof, with its goal, by an event that is entered; or a reading of what was seen.
abbrev pub IsTaken : {W G C O : Type 0} → (old new : Sight W G C O) → task.Task G C → Type 0
IsTaken {W} {G} {C} {O} old new (task_code.Theory index parents) = (log : List (ℕ × Event G C O)) × Enters old new log (TakeTheory index) × IsReady (state_of old.opening log) index (map (λ p. p.value) parents.items)
IsTaken {W} {G} {C} {O} old new (task_code.Proof number goal) = (log : List (ℕ × Event G C O)) × Enters old new log (TakeProof number) × IsGoalOf (state_of old.opening log) number goal.value
IsTaken old new task_code.Idle = Sees old new × IsIdle (state_seen new)
IsTaken old new task_code.Finished = Sees old new × IsFinished (state_seen new)
IsTaken old new task_code.Stopped = Sees old new × ((state_seen new).stopped ≡ true)

-- A fork was entered, and its promise has the number.
abbrev pub IsForked : {W G C O : Type 0} → (old new : Sight W G C O) → (theory command : ℕ) → (goal : G) → (number : ℕ) → Type 0
IsForked {W} {G} {C} {O} old new i c g n = (log : List (ℕ × Event G C O)) × Enters old new log (Fork i c g) × (n ≡ length (state_of old.opening log).promises)

-- The event was entered behind some history.
abbrev pub IsEntered : {W G C O : Type 0} → (old new : Sight W G C O) → Event G C O → Type 0
IsEntered {W} {G} {C} {O} old new e = (log : List (ℕ × Event G C O)) × Enters old new log e

-- The outcome was delivered, and the answer says whether the promise was cancelled then.
abbrev pub IsDelivered : {W G C O : Type 0} → (old new : Sight W G C O) → (number : ℕ) → (outcome : O) → (fault : Bool) → delivered.Delivered → Type 0
IsDelivered {W} {G} {C} {O} old new n o fault d = (log : List (ℕ × Event G C O)) × Enters old new log (Deliver n o fault) × (d ≡ delivered_as (is_cancelled_promise (slice_get (state_of old.opening log).promises n)))
