-- What a seat has in hand while its worker runs.
use Rattle.std.specs.Prelude.{◌≡◌, ◌≢◌, ◌⊎◌, ℕ, List, Bool, Some}
use Rattle.pure_text.specs.Lists.{IsIn}
use Rattle.pure_machine.specs.Policy.{Opening}
use Rattle.pure_machine.specs.State.{State, Progress, Promise, Cancelled, Event, TakeTheory, TakeProof, CloseTheory, Deliver, theory_at}
use Rattle.pure_machine.specs.Step.{Stands, IsOver, IsClosed, IsOut, stops}
use Rattle.pure_core_runs.specs.Seats.{own, state_of, IsNumberedRun, IsOrderlySeat, HasTheory}

-- what a seat took and has neither closed nor delivered, nor found cancelled
pub data Held : Type 0 where
  Nothing : Held
  Theory : (number : ℕ) → Held
  Proof : (number : ℕ) → Held

-- It is in hand by these events: the theory was taken and not closed, or the proof was taken and no outcome of it was delivered.
abbrev pub IsHeld : {G C O : Type 0} → List (Event G C O) → Held → Type 0
IsHeld events Nothing = Unit {0}
IsHeld events (Theory i) = HasTheory events i
IsHeld events (Proof n) = IsOut events n

-- The promise was cancelled.
abbrev pub WasCancelled : {G C O : Type 0} → State G C O → (number : ℕ) → Type 0
WasCancelled {G} {C} {O} s n = (p : Promise G O) × Stands s n p × (p.standing ≡ Cancelled)

-- The theory was closed by one of the events.
abbrev pub WasClosed : {G C O : Type 0} → List (Event G C O) → (number : ℕ) → Type 0
WasClosed {G} {C} {O} events i = (c : C) × IsIn (CloseTheory i c) events

-- An outcome of the promise was delivered by one of the events.
abbrev pub WasDelivered : {G C O : Type 0} → List (Event G C O) → (number : ℕ) → Type 0
WasDelivered {G} {C} {O} events n = (o : O) × (fault : Bool) × IsIn (Deliver n o fault) events

-- The theory is closed in the state, and one of the events closed it.
abbrev pub IsDone : {G C O : Type 0} → State G C O → List (Event G C O) → (number : ℕ) → Type 0
IsDone {G} {C} {O} s events i = ((p : Progress C) × (theory_at s.theories i ≡ Some p) × IsClosed p) × WasClosed events i

-- The promise is settled or cancelled in the state, and one of the events delivered an outcome of it or it was cancelled.
abbrev pub IsSettled : {G C O : Type 0} → State G C O → List (Event G C O) → (number : ℕ) → Type 0
IsSettled {G} {C} {O} s events n = ((p : Promise G O) × Stands s n p × IsOver p.standing) × (WasDelivered events n ⊎ WasCancelled s n)

-- The acts are a numbered legal run, in which the seat hasn't stopped the work, is orderly, and has done with all that it took but what it has in hand.
pub record Holds {G C O : Type 0} (forks : ℕ → ℕ → ℕ → G → Type 0) (closes : ℕ → ℕ → C → Type 0) (may : G → O → Type 0) (is_fault : O → Bool) (o : Opening) (seat : ℕ) (acts : List (ℕ × Event G C O)) (held : Held) : Type 0 where
  pub run : IsNumberedRun forks closes may is_fault o acts
  pub goes_on : stops (own seat acts) ≡ 0
  pub orderly : IsOrderlySeat o acts seat
  pub in_hand : IsHeld (own seat acts) held
  pub theories : (i : ℕ) → IsIn (TakeTheory i) (own seat acts) → held ≢ Theory i → IsDone (state_of o acts) (own seat acts) i
  pub promises : (n : ℕ) → IsIn (TakeProof n) (own seat acts) → held ≢ Proof n → IsSettled (state_of o acts) (own seat acts) n
