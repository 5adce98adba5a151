-- What a worker leaves of its seat.
use Rattle.std.specs.Prelude.{◌≡◌, ◌⊎◌, ℕ, List, true}
use Rattle.pure_text.specs.Lists.{IsIn}
use Rattle.pure_machine.specs.Policy.{Opening}
use Rattle.pure_machine.specs.State.{State, Event, TakeTheory, TakeProof}
use Rattle.pure_machine.specs.Step.{IsFinished, stops}
use Rattle.pure_core_runs.specs.Seats.{events_of, own, state_of, IsOrderlySeat}
use Rattle.pure_pool.specs.Held.{WasCancelled, WasClosed, WasDelivered}

-- By these events each theory that was taken was closed, and of each promise that was taken an outcome was delivered, or it is cancelled in the state.
pub record AreAllDone {G C O : Type 0} (s : State G C O) (events : List (Event G C O)) : Type 0 where
  pub theories : (i : ℕ) → IsIn (TakeTheory i) events → WasClosed events i
  pub promises : (n : ℕ) → IsIn (TakeProof n) events → WasDelivered events n ⊎ WasCancelled s n

-- What the seat saw last is Finished or stopped; where nobody stopped the work there, the seat has done with all that it took; and it took nothing while something that it took was open.
pub record IsServed {G C O : Type 0} (o : Opening) (seat : ℕ) (acts : List (ℕ × Event G C O)) : Type 0 where
  pub ended : IsFinished (state_of o acts) ⊎ ((state_of o acts).stopped ≡ true)
  pub all_done : stops (events_of acts) ≡ 0 → AreAllDone (state_of o acts) (own seat acts)
  pub orderly : IsOrderlySeat o acts seat
