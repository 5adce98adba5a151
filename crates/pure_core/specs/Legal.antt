-- Legal runs of a work: histories of which each event may happen where it stands (Wenzel, Parallel Proof Checking in Isabelle/Isar, 2009).
use Rattle.std.specs.Prelude.{◌≡◌, ◌≢◌, ℕ, List, Bool, false, Some}
use Rattle.pure_machine.specs.State.{State, Promise, Event, Running, Taken, theory_at, opened}
use Rattle.pure_machine.specs.Step.{after_all, stops, Stands, IsOut, IsRunFrom}

-- The state is that of a legal run of the work: its opening has the work's shape, its history is a legal run from the state at the opening, and it is the state after that.
pub record IsLegal {G C O : Type 0} (shape : List (List ℕ)) (forks : ℕ → ℕ → ℕ → G → Type 0) (closes : ℕ → ℕ → C → Type 0) (may : G → O → Type 0) (is_fault : O → Bool) (s : State G C O) : Type 0 where
  pub shaped : s.opening.shape ≡ shape
  pub run : IsRunFrom forks closes may is_fault (opened s.opening) s.history
  pub state : s ≡ after_all (opened s.opening) s.history

-- The later state comes of the earlier one by events of which each may happen where it stands, and of which none stops the work.
pub record GoesOn {G C O : Type 0} (forks : ℕ → ℕ → ℕ → G → Type 0) (closes : ℕ → ℕ → C → Type 0) (may : G → O → Type 0) (is_fault : O → Bool) (old new : State G C O) : Type 0 where
  pub events : List (Event G C O)
  pub run : IsRunFrom forks closes may is_fault old events
  pub state : new ≡ after_all old events
  pub none_stops : stops events ≡ 0

-- No theory and no proof runs, and the work wasn't stopped.
pub record IsAtRest {G C O : Type 0} (s : State G C O) : Type 0 where
  pub goes_on : s.stopped ≡ false
  pub theories : (i k : ℕ) → theory_at s.theories i ≢ Some (Running k)
  pub promises : (n : ℕ) (p : Promise G O) → Stands s n p → p.standing ≢ Taken

-- This theory runs and has made so many forks, and neither another theory nor a proof runs, and the work wasn't stopped.
pub record IsTheoryAlone {G C O : Type 0} (s : State G C O) (theory forks : ℕ) : Type 0 where
  pub goes_on : s.stopped ≡ false
  pub runs : theory_at s.theories theory ≡ Some (Running forks)
  pub theories : (i k : ℕ) → theory_at s.theories i ≡ Some (Running k) → i ≡ theory
  pub promises : (n : ℕ) (p : Promise G O) → Stands s n p → p.standing ≢ Taken

-- The proof of this promise, with this goal, runs, no outcome of it was delivered, neither another proof nor a theory runs, and the work wasn't stopped.
pub record IsProofAlone {G C O : Type 0} (s : State G C O) (number : ℕ) (goal : G) : Type 0 where
  pub goes_on : s.stopped ≡ false
  pub promise : Promise G O
  pub stands : Stands s number promise
  pub is_goal : promise.goal ≡ goal
  pub out : IsOut s.history number
  pub taken : promise.standing ≡ Taken
  pub theories : (i k : ℕ) → theory_at s.theories i ≢ Some (Running k)
  pub promises : (n : ℕ) (p : Promise G O) → Stands s n p → p.standing ≡ Taken → n ≡ number
