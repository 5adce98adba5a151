-- Laws of numbered legal runs.
use Rattle.std.specs.Prelude.{◌≡◌, ◌⊎◌, ◌<◌, ℕ, List, [], ◌∷◌, ◌++◌, Bool, true, false, Some}
use Rattle.pure_text.specs.Lists.{IsIn}
use Rattle.pure_machine.specs.Policy.{Opening}
use Rattle.pure_machine.specs.State.{Progress, Running, Promise, Taken, Cancelled, Event, TakeTheory, TakeProof, Fork, CloseTheory, Deliver, Stop, theory_at}
use Rattle.pure_machine.specs.Step.{Stands, IsOver, IsClosed, IsOut, IsFinished, stops}
use Rattle.pure_core.specs.Legal.{IsLegal}
use Rattle.pure_core_runs.specs.Seats.{events_of, own, state_of, IsNumberedRun, MayEnter, HasNothingOpen, IsTake, IsOrderlySeat, HasTheory, forks_in, IsVain}

-- A front of a numbered legal run is one.
abbrev pub FrontIsNumbered : {G C O : Type 0} → (ℕ → ℕ → ℕ → G → Type 0) → (ℕ → ℕ → C → Type 0) → (G → O → Type 0) → (O → Bool) → Type 0
FrontIsNumbered {G} {C} {O} forks closes may is_fault = (o : Opening) (acts more : List (ℕ × Event G C O)) → IsNumberedRun forks closes may is_fault o (acts ++ more) → IsNumberedRun forks closes may is_fault o acts

-- No event at all is a numbered legal run.
abbrev pub NothingIsNumbered : {G C O : Type 0} → (ℕ → ℕ → ℕ → G → Type 0) → (ℕ → ℕ → C → Type 0) → (G → O → Type 0) → (O → Bool) → Type 0
NothingIsNumbered {G} {C} {O} forks closes may is_fault = (o : Opening) → IsNumberedRun {G = G} {C = C} {O = O} forks closes may is_fault o []

-- An event that the seat may enter behind a numbered legal run makes one.
abbrev pub EntryIsNumbered : {G C O : Type 0} → (ℕ → ℕ → ℕ → G → Type 0) → (ℕ → ℕ → C → Type 0) → (G → O → Type 0) → (O → Bool) → Type 0
EntryIsNumbered {G} {C} {O} forks closes may is_fault = (o : Opening) (acts : List (ℕ × Event G C O)) (seat : ℕ) (e : Event G C O) → IsNumberedRun forks closes may is_fault o acts → MayEnter forks closes may is_fault o acts seat e → IsNumberedRun forks closes may is_fault o (acts ++ (seat, e) ∷ [])

-- The state to which a numbered legal run leads is that of a legal run, with the events as its history and the opening as its opening.
abbrev pub NumberedIsLegal : {G C O : Type 0} → (ℕ → ℕ → ℕ → G → Type 0) → (ℕ → ℕ → C → Type 0) → (G → O → Type 0) → (O → Bool) → Type 0
NumberedIsLegal {G} {C} {O} forks closes may is_fault = (o : Opening) (acts : List (ℕ × Event G C O)) → IsNumberedRun forks closes may is_fault o acts → IsLegal o.shape forks closes may is_fault (state_of o acts) × ((state_of o acts).history ≡ events_of acts) × ((state_of o acts).opening ≡ o)

-- What a seat entered in two lists of events, one after the other, is what it entered in the one and then what it entered in the other.
abbrev pub OwnIsJoined : (G C O : Type 0) → Type 0
OwnIsJoined G C O = (seat : ℕ) (acts more : List (ℕ × Event G C O)) → own seat (acts ++ more) ≡ own seat acts ++ own seat more

-- From Finished on each event stops the work or delivers an outcome of a cancelled promise.
abbrev pub FinishedEnds : {G C O : Type 0} → (ℕ → ℕ → ℕ → G → Type 0) → (ℕ → ℕ → C → Type 0) → (G → O → Type 0) → (O → Bool) → Type 0
FinishedEnds {G} {C} {O} forks closes may is_fault = (o : Opening) (acts before after : List (ℕ × Event G C O)) (seat : ℕ) (e : Event G C O) → IsNumberedRun forks closes may is_fault o ((acts ++ before) ++ (seat, e) ∷ after) → IsFinished (state_of o acts) → IsVain (state_of o (acts ++ before)) e

-- Where none of the further events stops the work, Finished stays.
abbrev pub FinishedStays : {G C O : Type 0} → (ℕ → ℕ → ℕ → G → Type 0) → (ℕ → ℕ → C → Type 0) → (G → O → Type 0) → (O → Bool) → Type 0
FinishedStays {G} {C} {O} forks closes may is_fault = (o : Opening) (acts more : List (ℕ × Event G C O)) → IsNumberedRun forks closes may is_fault o (acts ++ more) → IsFinished (state_of o acts) → stops (events_of more) ≡ 0 → IsFinished (state_of o (acts ++ more))

-- Once stopped, the work stays so; and it is stopped exactly where some event stopped it.
abbrev pub StoppedStays : (G C O : Type 0) → Type 0
StoppedStays G C O = (o : Opening) (acts more : List (ℕ × Event G C O)) → ((state_of o acts).stopped ≡ true → (state_of o (acts ++ more)).stopped ≡ true) × ((state_of o acts).stopped ≡ false → stops (events_of acts) ≡ 0) × (stops (events_of acts) ≡ 0 → (state_of o acts).stopped ≡ false)

-- A promise keeps its theory, its command and its goal; and one that is settled or cancelled stays so, with its outcome.
abbrev pub PromiseStays : {G C O : Type 0} → (ℕ → ℕ → ℕ → G → Type 0) → (ℕ → ℕ → C → Type 0) → (G → O → Type 0) → (O → Bool) → Type 0
PromiseStays {G} {C} {O} forks closes may is_fault = (o : Opening) (acts more : List (ℕ × Event G C O)) (n : ℕ) (p : Promise G O) → IsNumberedRun forks closes may is_fault o (acts ++ more) → Stands (state_of o acts) n p → (q : Promise G O) × Stands (state_of o (acts ++ more)) n q × (q.theory ≡ p.theory) × (q.command ≡ p.command) × (q.goal ≡ p.goal) × (IsOver p.standing → q.standing ≡ p.standing)

-- A theory that is closed stays so, with its value and its number of forks.
abbrev pub ClosedStays : {G C O : Type 0} → (ℕ → ℕ → ℕ → G → Type 0) → (ℕ → ℕ → C → Type 0) → (G → O → Type 0) → (O → Bool) → Type 0
ClosedStays {G} {C} {O} forks closes may is_fault = (o : Opening) (acts more : List (ℕ × Event G C O)) (i : ℕ) (p : Progress C) → IsNumberedRun forks closes may is_fault o (acts ++ more) → theory_at (state_of o acts).theories i ≡ Some p → IsClosed p → theory_at (state_of o (acts ++ more)).theories i ≡ Some p

-- What is not open in a state isn't open in later ones.
abbrev pub NothingOpenStays : {G C O : Type 0} → (ℕ → ℕ → ℕ → G → Type 0) → (ℕ → ℕ → C → Type 0) → (G → O → Type 0) → (O → Bool) → Type 0
NothingOpenStays {G} {C} {O} forks closes may is_fault = (o : Opening) (acts more : List (ℕ × Event G C O)) (events : List (Event G C O)) → IsNumberedRun forks closes may is_fault o (acts ++ more) → HasNothingOpen (state_of o acts) events → HasNothingOpen (state_of o (acts ++ more)) events

-- A theory is taken by one seat at most, and so is a proof.
abbrev pub TakerIsOne : {G C O : Type 0} → (ℕ → ℕ → ℕ → G → Type 0) → (ℕ → ℕ → C → Type 0) → (G → O → Type 0) → (O → Bool) → Type 0
TakerIsOne {G} {C} {O} forks closes may is_fault = (o : Opening) (acts : List (ℕ × Event G C O)) (seat other : ℕ) (e : Event G C O) → IsNumberedRun forks closes may is_fault o acts → IsTake e → IsIn (seat, e) acts → IsIn (other, e) acts → seat ≡ other

-- What a seat took is there: a theory of the session, or a promise.
abbrev pub TakenIsThere : {G C O : Type 0} → (ℕ → ℕ → ℕ → G → Type 0) → (ℕ → ℕ → C → Type 0) → (G → O → Type 0) → (O → Bool) → Type 0
TakenIsThere {G} {C} {O} forks closes may is_fault = (o : Opening) (acts : List (ℕ × Event G C O)) (seat : ℕ) → IsNumberedRun forks closes may is_fault o acts → ((i : ℕ) → IsIn (TakeTheory i) (own seat acts) → (q : Progress C) × (theory_at (state_of o acts).theories i ≡ Some q)) × ((n : ℕ) → IsIn (TakeProof n) (own seat acts) → (p : Promise G O) × Stands (state_of o acts) n p)

-- A proof that a seat took and of which it delivered no outcome is out: it was taken, no outcome was delivered, and its promise is taken or was cancelled.
abbrev pub OutIsKnown : {G C O : Type 0} → (ℕ → ℕ → ℕ → G → Type 0) → (ℕ → ℕ → C → Type 0) → (G → O → Type 0) → (O → Bool) → Type 0
OutIsKnown {G} {C} {O} forks closes may is_fault = (o : Opening) (acts : List (ℕ × Event G C O)) (seat n : ℕ) → IsNumberedRun forks closes may is_fault o acts → IsOut (own seat acts) n → IsOut (events_of acts) n × ((p : Promise G O) × Stands (state_of o acts) n p × ((p.standing ≡ Taken) ⊎ (p.standing ≡ Cancelled)))

-- A theory that a seat took and didn't close runs, and has made as many forks as the seat made of it.
abbrev pub RunningIsKnown : {G C O : Type 0} → (ℕ → ℕ → ℕ → G → Type 0) → (ℕ → ℕ → C → Type 0) → (G → O → Type 0) → (O → Bool) → Type 0
RunningIsKnown {G} {C} {O} forks closes may is_fault = (o : Opening) (acts : List (ℕ × Event G C O)) (seat i : ℕ) → IsNumberedRun forks closes may is_fault o acts → HasTheory (own seat acts) i → theory_at (state_of o acts).theories i ≡ Some (Running (forks_in i (own seat acts)))

-- A seat may enter the next fork of a theory that it took and didn't close.
abbrev pub ForkMayEnter : {G C O : Type 0} → (ℕ → ℕ → ℕ → G → Type 0) → (ℕ → ℕ → C → Type 0) → (G → O → Type 0) → (O → Bool) → Type 0
ForkMayEnter {G} {C} {O} forks closes may is_fault = (o : Opening) (acts : List (ℕ × Event G C O)) (seat i c : ℕ) (g : G) → IsNumberedRun forks closes may is_fault o acts → seat < o.workers → HasTheory (own seat acts) i → forks i (forks_in i (own seat acts)) c g → MayEnter forks closes may is_fault o acts seat (Fork i c g)

-- A seat may close a theory that it took and didn't close, by a value that may close it after so many forks.
abbrev pub CloseMayEnter : {G C O : Type 0} → (ℕ → ℕ → ℕ → G → Type 0) → (ℕ → ℕ → C → Type 0) → (G → O → Type 0) → (O → Bool) → Type 0
CloseMayEnter {G} {C} {O} forks closes may is_fault = (o : Opening) (acts : List (ℕ × Event G C O)) (seat i : ℕ) (c : C) → IsNumberedRun forks closes may is_fault o acts → seat < o.workers → HasTheory (own seat acts) i → closes i (forks_in i (own seat acts)) c → MayEnter forks closes may is_fault o acts seat (CloseTheory i c)

-- A seat may deliver an outcome that its goal may have, of a proof that it took and of which it delivered none.
abbrev pub DeliverMayEnter : {G C O : Type 0} → (ℕ → ℕ → ℕ → G → Type 0) → (ℕ → ℕ → C → Type 0) → (G → O → Type 0) → (O → Bool) → Type 0
DeliverMayEnter {G} {C} {O} forks closes may is_fault = (o : Opening) (acts : List (ℕ × Event G C O)) (seat n : ℕ) (p : Promise G O) (outcome : O) (fault : Bool) → IsNumberedRun forks closes may is_fault o acts → seat < o.workers → IsOut (own seat acts) n → Stands (state_of o acts) n p → may p.goal outcome → fault ≡ is_fault outcome → MayEnter forks closes may is_fault o acts seat (Deliver n outcome fault)

-- A seat of the workers' that hasn't stopped the work may stop it.
abbrev pub StopMayEnter : {G C O : Type 0} → (ℕ → ℕ → ℕ → G → Type 0) → (ℕ → ℕ → C → Type 0) → (G → O → Type 0) → (O → Bool) → Type 0
StopMayEnter {G} {C} {O} forks closes may is_fault = (o : Opening) (acts : List (ℕ × Event G C O)) (seat : ℕ) → IsNumberedRun forks closes may is_fault o acts → seat < o.workers → stops (own seat acts) ≡ 0 → MayEnter forks closes may is_fault o acts seat Stop

-- Of an orderly run each front is orderly.
abbrev pub FrontIsOrderly : (G C O : Type 0) → Type 0
FrontIsOrderly G C O = (o : Opening) (acts more : List (ℕ × Event G C O)) (seat : ℕ) → IsOrderlySeat o (acts ++ more) seat → IsOrderlySeat o acts seat

-- A seat stays orderly by events of others, and by an event of its own with which it takes nothing or before which nothing that it took is open.
abbrev pub OrderlyGrows : (G C O : Type 0) → Type 0
OrderlyGrows G C O = (o : Opening) (acts more : List (ℕ × Event G C O)) (seat : ℕ) → IsOrderlySeat o acts seat → (own seat more ≡ [] → IsOrderlySeat o (acts ++ more) seat) × ((e : Event G C O) → (IsTake e → HasNothingOpen (state_of o acts) (own seat acts)) → IsOrderlySeat o (acts ++ (seat, e) ∷ []) seat)

-- At Finished nothing is open of what a seat took.
abbrev pub FinishedIsClosed : {G C O : Type 0} → (ℕ → ℕ → ℕ → G → Type 0) → (ℕ → ℕ → C → Type 0) → (G → O → Type 0) → (O → Bool) → Type 0
FinishedIsClosed {G} {C} {O} forks closes may is_fault = (o : Opening) (acts : List (ℕ × Event G C O)) (seat : ℕ) → IsNumberedRun forks closes may is_fault o acts → IsFinished (state_of o acts) → HasNothingOpen (state_of o acts) (own seat acts)
