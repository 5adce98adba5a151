-- Which seat did what: legal runs of which each event stands with the number of the seat that entered it (Wenzel, Parallel Proof Checking in Isabelle/Isar, 2009).
use Rattle.std.specs.Prelude.{◌≡◌, ◌<◌, ◌≤◌, ℕ, ◌+◌, nat_eq, List, [], ◌∷◌, ◌++◌, map, Bool, true, if◌then◌else◌, Some, slice_get}
use Rattle.pure_text.specs.Lists.{IsIn, Each}
use Rattle.pure_machine.specs.Policy.{Opening}
use Rattle.pure_machine.specs.State.{State, Progress, Promise, Event, TakeTheory, TakeProof, Fork, CloseTheory, Deliver, Stop, theory_at, opened}
use Rattle.pure_machine.specs.Step.{Stands, IsOver, IsClosed, Allows, IsRunFrom, after_all, stops, is_cancelled_promise}

-- the events alone, without the numbers of the seats that entered them
abbrev pub events_of : {E : Type 0} → List (ℕ × E) → List E
events_of acts = map (λ a. a.1) acts

-- the events that the seat with this number entered, in order
abbrev pub own : {E : Type 0} → (seat : ℕ) → List (ℕ × E) → List E
own seat [] = []
own seat (a ∷ acts) = if nat_eq a.0 seat then (a.1 ∷ own seat acts) else own seat acts

-- the state to which the events lead from the opening
abbrev pub state_of : {G C O : Type 0} → Opening → List (ℕ × Event G C O) → State G C O
state_of o acts = after_all (opened o) (events_of acts)

-- If the event is of a theory or a promise that has to be taken before, it was taken among these events.
abbrev pub IsOfTaken : {G C O : Type 0} → List (Event G C O) → Event G C O → Type 0
IsOfTaken events (Fork i c g) = IsIn (TakeTheory i) events
IsOfTaken events (CloseTheory i c) = IsIn (TakeTheory i) events
IsOfTaken events (Deliver n o fault) = IsIn (TakeProof n) events
IsOfTaken events _ = Unit {0}

-- The events with the numbers of their seats are a numbered legal run from the opening: the events are a legal run, each seat's number is below the number of workers, each fork, close and delivery is of a theory or a promise that its own seat took before, and no seat stops the work twice.
pub record IsNumberedRun {G C O : Type 0} (forks : ℕ → ℕ → ℕ → G → Type 0) (closes : ℕ → ℕ → C → Type 0) (may : G → O → Type 0) (is_fault : O → Bool) (o : Opening) (acts : List (ℕ × Event G C O)) : Type 0 where
  pub run : IsRunFrom forks closes may is_fault (opened o) (events_of acts)
  pub few : Each (λ a. a.0 < o.workers) acts
  pub takers : (before after : List (ℕ × Event G C O)) (seat : ℕ) (e : Event G C O) → acts ≡ before ++ (seat, e) ∷ after → IsOfTaken (own seat before) e
  pub stops_once : (seat : ℕ) → stops (own seat acts) ≤ 1

-- The seat may enter the event behind a numbered run: the event may happen there, the seat's number is below the number of workers, the seat took what the event is of, and by the event it doesn't stop the work twice.
pub record MayEnter {G C O : Type 0} (forks : ℕ → ℕ → ℕ → G → Type 0) (closes : ℕ → ℕ → C → Type 0) (may : G → O → Type 0) (is_fault : O → Bool) (o : Opening) (acts : List (ℕ × Event G C O)) (seat : ℕ) (e : Event G C O) : Type 0 where
  pub allowed : Allows forks closes may is_fault (state_of o acts) e
  pub few : seat < o.workers
  pub taker : IsOfTaken (own seat acts) e
  pub stops_once : stops (own seat acts ++ e ∷ []) ≤ 1

-- Of what these events took nothing is open in the state: each theory is closed, and each promise is settled or cancelled.
pub record HasNothingOpen {G C O : Type 0} (s : State G C O) (events : List (Event G C O)) : Type 0 where
  pub theories : (i : ℕ) → IsIn (TakeTheory i) events → (p : Progress C) × (theory_at s.theories i ≡ Some p) × IsClosed p
  pub promises : (n : ℕ) → IsIn (TakeProof n) events → (p : Promise G O) × Stands s n p × IsOver p.standing

-- The event takes a theory or a proof.
abbrev pub IsTake : {G C O : Type 0} → Event G C O → Type 0
IsTake (TakeTheory i) = Unit {0}
IsTake (TakeProof n) = Unit {0}
IsTake _ = ⊥

-- The seat is orderly: wherever it takes a theory or a proof, nothing that it took before is open.
abbrev pub IsOrderlySeat : {G C O : Type 0} → Opening → List (ℕ × Event G C O) → (seat : ℕ) → Type 0
IsOrderlySeat {G} {C} {O} o acts seat = (before after : List (ℕ × Event G C O)) (e : Event G C O) → acts ≡ before ++ (seat, e) ∷ after → IsTake e → HasNothingOpen (state_of o before) (own seat before)

-- Each seat is orderly.
abbrev pub IsOrderly : {G C O : Type 0} → Opening → List (ℕ × Event G C O) → Type 0
IsOrderly o acts = (seat : ℕ) → IsOrderlySeat o acts seat

-- how many forks of the theory are among the events
abbrev pub forks_in : {G C O : Type 0} → (theory : ℕ) → List (Event G C O) → ℕ
forks_in i [] = 0
forks_in i (Fork j c g ∷ es) = if nat_eq j i then (forks_in i es + 1) else forks_in i es
forks_in i (_ ∷ es) = forks_in i es

-- By these events the theory was taken and not closed.
pub record HasTheory {G C O : Type 0} (events : List (Event G C O)) (theory : ℕ) : Type 0 where
  pub taken : IsIn (TakeTheory theory) events
  pub open_still : (c : C) → ¬ IsIn (CloseTheory theory c) events

-- The event changes nothing but the history where all was finished: it stops the work, or delivers an outcome of a cancelled promise.
abbrev pub IsVain : {G C O : Type 0} → State G C O → Event G C O → Type 0
IsVain s Stop = Unit {0}
IsVain s (Deliver n o fault) = is_cancelled_promise (slice_get s.promises n) ≡ true
IsVain s _ = ⊥
