-- One step of a machine: what an event changes, what it is answered, and where it may happen.
use Rattle.std.specs.Prelude.{◌≡◌, ◌⊎◌, ◌<◌, ℕ, ◌+◌, List, [], ◌∷◌, ◌++◌, length, Bool, true, false, ◌&&◌, if◌then◌else◌, Option, Some, None, slice_get}
use Rattle.pure_text.specs.Lists.{IsIn, Each}
use Rattle.pure_machine.specs.declared.policy.Group.{Group}
use Rattle.pure_machine.specs.declared.policy.Group.TheVariants.{Session}
use Rattle.pure_machine.specs.Policy.{Policy, due}
use Rattle.pure_machine.specs.State.{Progress, Waiting, Running, Closed, Standing, Ready, Taken, Settled, Cancelled, Promise, Event, TakeTheory, TakeProof, Fork, CloseTheory, Deliver, Stop, State, theory_at, parents_at, with_progress, with_standing, is_theory_cancelled, with_cancelled}

-- the value that closed a theory, if one did
abbrev pub value_of : {C : Type 0} → Progress C → Option C
value_of (Closed forks value) = Some value
value_of _ = None

-- the value that closed the theory of this number, if there is one and one did
abbrev pub closed_value : {C : Type 0} → Option (Progress C) → Option C
closed_value None = None
closed_value (Some t) = value_of t

-- a value in front of others, where all are there
abbrev pub joined_values : {C : Type 0} → Option C → Option (List C) → Option (List C)
joined_values (Some c) (Some cs) = Some (c ∷ cs)
joined_values _ _ = None

-- the values that closed these theories, in this order; none where one of them isn't closed
abbrev pub closed_values : {C : Type 0} → List (Progress C) → (numbers : List ℕ) → Option (List C)
closed_values ts [] = Some []
closed_values ts (i ∷ is) = joined_values (closed_value (theory_at ts i)) (closed_values ts is)

-- The parents of each theory have smaller numbers, from 1 on.
abbrev pub IsShape : List (List ℕ) → Type 0
IsShape shape = (i : ℕ) (numbers : List ℕ) → parents_at shape i ≡ Some numbers → Each (λ p. (0 < p) × (p < i)) numbers

-- The theory waits, and its parents are closed by these values.
pub record IsReadyIn {C : Type 0} (shape : List (List ℕ)) (theories : List (Progress C)) (number : ℕ) (parents : List C) : Type 0 where
  pub waits : theory_at theories number ≡ Some Waiting
  pub numbers : List ℕ
  pub parents_are : parents_at shape number ≡ Some numbers
  pub closed : closed_values theories numbers ≡ Some parents

-- No theory before this number is ready.
abbrev pub NoneReadyBelow : {C : Type 0} → List (List ℕ) → List (Progress C) → (bound : ℕ) → Type 0
NoneReadyBelow {C} shape ts bound = (i : ℕ) → i < bound → (cs : List C) → ¬ IsReadyIn shape ts i cs

-- The theory of the state is ready, with these values of its parents.
abbrev pub IsReady : {G C O : Type 0} → State G C O → (number : ℕ) → (parents : List C) → Type 0
IsReady s i cs = IsReadyIn s.opening.shape s.theories i cs

-- No theory is ready.
abbrev pub NoTheoryReady : {G C O : Type 0} → State G C O → Type 0
NoTheoryReady {G} {C} {O} s = (i : ℕ) (cs : List C) → ¬ IsReady s i cs

-- It is the first ready theory.
abbrev pub IsNextTheory : {G C O : Type 0} → State G C O → (number : ℕ) → (parents : List C) → Type 0
IsNextTheory s i cs = IsReady s i cs × NoneReadyBelow s.opening.shape s.theories i

-- The promise of this number stands so.
abbrev pub Stands : {G C O : Type 0} → State G C O → (number : ℕ) → Promise G O → Type 0
Stands s n p = slice_get s.promises n ≡ Some p

-- No promise before this number is ready.
abbrev pub NoPromiseReadyBelow : {G O : Type 0} → List (Promise G O) → (bound : ℕ) → Type 0
NoPromiseReadyBelow {G} {O} ps bound = (m : ℕ) → m < bound → (q : Promise G O) → slice_get ps m ≡ Some q → ¬ (q.standing ≡ Ready)

-- It is the first promise that is ready.
abbrev pub IsNextPromise : {G C O : Type 0} → State G C O → (number : ℕ) → Promise G O → Type 0
IsNextPromise s n p = Stands s n p × (p.standing ≡ Ready) × NoPromiseReadyBelow s.promises n

-- The proof was taken, and no outcome of it was delivered yet.
pub record IsOut {G C O : Type 0} (history : List (Event G C O)) (number : ℕ) : Type 0 where
  pub taken : IsIn (TakeProof number) history
  pub open_still : (o : O) (fault : Bool) → ¬ IsIn (Deliver number o fault) history

-- what a taker or a caller is answered
pub data Reply (G C : Type 0) : Type 0 where
  GivesTheory : (number : ℕ) → (parents : List C) → Reply G C
  GivesProof : (number : ℕ) → (goal : G) → Reply G C
  Numbered : (number : ℕ) → Reply G C
  Done : Reply G C
  Kept : Reply G C
  Dropped : Reply G C

-- how many times the work was stopped
abbrev pub stops : {G C O : Type 0} → List (Event G C O) → ℕ
stops [] = 0
stops (Stop ∷ es) = stops es + 1
stops (_ ∷ es) = stops es

-- how many forks a theory has made
abbrev pub forks_of : {C : Type 0} → Progress C → ℕ
forks_of (Running forks) = forks
forks_of (Closed forks value) = forks
forks_of Waiting = 0

-- the theory runs, one fork further
abbrev pub forked_once : {C : Type 0} → Option (Progress C) → Progress C
forked_once None = Waiting
forked_once (Some t) = Running (forks_of t + 1)

-- the theory closed by the value, after as many forks as it has made
abbrev pub closed_by : {C : Type 0} → Option (Progress C) → C → Progress C
closed_by None c = Waiting
closed_by (Some t) c = Closed (forks_of t) c

-- the promise that a fork makes: cancelled where its group or the one above is, and else ready
abbrev pub new_promise : {G C O : Type 0} → State G C O → (theory command : ℕ) → G → Promise G O
new_promise s i c g = record { theory = i; command = c; goal = g; standing = if is_theory_cancelled s.cancelled i then Cancelled else Ready }

-- whether a promise that stands so is cancelled
abbrev pub is_cancelled_standing : {O : Type 0} → Standing O → Bool
is_cancelled_standing Cancelled = true
is_cancelled_standing _ = false

-- whether the promise of this number is cancelled
abbrev pub is_cancelled_promise : {G O : Type 0} → Option (Promise G O) → Bool
is_cancelled_promise None = false
is_cancelled_promise (Some p) = is_cancelled_standing p.standing

-- the groups that are cancelled when a delivery is kept, which makes so many: those that the policy lists for this number, and the session at a fault, where the policy says so
abbrev pub cancelled_by : Policy → (kept : ℕ) → (fault : Bool) → List Group
cancelled_by p kept fault = if p.fail_fast && fault then (Session ∷ due p.cancels kept) else due p.cancels kept

-- the state once the outcome is kept: the promise is settled, there is one delivery more, and then the policy cancels
abbrev pub settled : {G C O : Type 0} → State G C O → (number : ℕ) → (outcome : O) → (fault : Bool) → State G C O
settled s n o fault = with_cancelled (record s { promises = with_standing s.promises n (Settled o); kept = s.kept + 1 }) (cancelled_by s.opening.policy (s.kept + 1) fault)

-- what the event changes beside the history
abbrev pub changed : {G C O : Type 0} → State G C O → Event G C O → State G C O
changed s (TakeTheory i) = record s { theories = with_progress s.theories i (Running 0) }
changed s (TakeProof n) = record s { promises = with_standing s.promises n Taken }
changed s (Fork i c g) = record s { theories = with_progress s.theories i (forked_once (theory_at s.theories i)); promises = s.promises ++ new_promise s i c g ∷ [] }
changed s (CloseTheory i c) = record s { theories = with_progress s.theories i (closed_by (theory_at s.theories i) c) }
changed s (Deliver n o fault) = if is_cancelled_promise (slice_get s.promises n) then s else settled s n o fault
changed s Stop = record s { stopped = true }

-- the state after the event, which is entered in the history
abbrev pub after : {G C O : Type 0} → State G C O → Event G C O → State G C O
after s e = record (changed s e) { history = s.history ++ e ∷ [] }

-- the state after some events, one after the other
abbrev pub after_all : {G C O : Type 0} → State G C O → List (Event G C O) → State G C O
after_all s [] = s
after_all s (e ∷ es) = after_all (after s e) es

-- The event may happen in the state: `forks` says which goal a theory may fork after so many others under which command, `closes` which value may close it after so many forks, `may` which outcome a goal may have, and `is_fault` which outcomes are faults.
abbrev pub Allows : {G C O : Type 0} → (forks : ℕ → ℕ → ℕ → G → Type 0) → (closes : ℕ → ℕ → C → Type 0) → (may : G → O → Type 0) → (is_fault : O → Bool) → State G C O → Event G C O → Type 0
Allows forks closes may is_fault s (TakeTheory i) = (s.stopped ≡ false) × ((cs : _) × IsNextTheory s i cs)
Allows forks closes may is_fault s (TakeProof n) = (s.stopped ≡ false) × NoTheoryReady s × ((p : _) × IsNextPromise s n p)
Allows forks closes may is_fault s (Fork i c g) = (k : ℕ) × (theory_at s.theories i ≡ Some (Running k)) × forks i k c g
Allows forks closes may is_fault s (CloseTheory i c) = (k : ℕ) × (theory_at s.theories i ≡ Some (Running k)) × closes i k c
Allows forks closes may is_fault s (Deliver n o fault) = (p : _) × Stands s n p × IsOut s.history n × may p.goal o × (fault ≡ is_fault o)
Allows forks closes may is_fault s Stop = stops s.history < s.opening.workers

-- What the event is answered in the state.
abbrev pub IsReply : {G C O : Type 0} → State G C O → Event G C O → Reply G C → Type 0
IsReply s (TakeTheory i) reply = (cs : _) × IsReady s i cs × (reply ≡ GivesTheory i cs)
IsReply s (TakeProof n) reply = (p : _) × Stands s n p × (reply ≡ GivesProof n p.goal)
IsReply s (Fork i c g) reply = reply ≡ Numbered (length s.promises)
IsReply s (CloseTheory i c) reply = reply ≡ Done
IsReply s (Deliver n o fault) reply = reply ≡ (if is_cancelled_promise (slice_get s.promises n) then Dropped else Kept)
IsReply s Stop reply = reply ≡ Done

-- One step: the event may happen, this is its answer, and this is the state after it.
pub record IsStep {G C O : Type 0} (forks : ℕ → ℕ → ℕ → G → Type 0) (closes : ℕ → ℕ → C → Type 0) (may : G → O → Type 0) (is_fault : O → Bool) (old : State G C O) (e : Event G C O) (reply : Reply G C) (new : State G C O) : Type 0 where
  pub allowed : Allows forks closes may is_fault old e
  pub answered : IsReply old e reply
  pub state : new ≡ after old e

-- The events are a legal run from the state: each may happen in the state that those before it leave.
abbrev pub IsRunFrom : {G C O : Type 0} → (forks : ℕ → ℕ → ℕ → G → Type 0) → (closes : ℕ → ℕ → C → Type 0) → (may : G → O → Type 0) → (is_fault : O → Bool) → State G C O → List (Event G C O) → Type 0
IsRunFrom forks closes may is_fault s [] = Unit {0}
IsRunFrom forks closes may is_fault s (e ∷ es) = Allows forks closes may is_fault s e × IsRunFrom forks closes may is_fault (after s e) es

-- Nothing is ready.
pub record IsNothingReady {G C O : Type 0} (s : State G C O) : Type 0 where
  pub theories : NoTheoryReady s
  pub promises : (n : ℕ) (p : _) → Stands s n p → ¬ (p.standing ≡ Ready)

-- A theory or a proof runs.
abbrev pub Runs : {G C O : Type 0} → State G C O → Type 0
Runs s = ((i : ℕ) × (k : ℕ) × (theory_at s.theories i ≡ Some (Running k))) ⊎ ((n : ℕ) × (p : _) × Stands s n p × (p.standing ≡ Taken))

-- The reading is Idle: the work wasn't stopped, nothing is ready, and something runs.
pub record IsIdle {G C O : Type 0} (s : State G C O) : Type 0 where
  pub goes_on : s.stopped ≡ false
  pub nothing : IsNothingReady s
  pub runs : Runs s

-- The promise is settled or cancelled.
abbrev pub IsOver : {O : Type 0} → Standing O → Type 0
IsOver Ready = ⊥
IsOver Taken = ⊥
IsOver _ = Unit {0}

-- The theory is closed.
abbrev pub IsClosed : {C : Type 0} → Progress C → Type 0
IsClosed (Closed forks value) = Unit {0}
IsClosed _ = ⊥

-- The reading is Finished: the work wasn't stopped, each theory is closed, and each promise is settled or cancelled.
pub record IsFinished {G C O : Type 0} (s : State G C O) : Type 0 where
  pub goes_on : s.stopped ≡ false
  pub theories : Each IsClosed s.theories
  pub promises : Each (λ p. IsOver p.standing) s.promises
