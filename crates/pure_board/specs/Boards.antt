-- How a board is opened.
use Rattle.std.specs.Prelude.{◌≡◌, ◌⊎◌, ◌<◌, ◌+◌, ℕ, Bool, true, false, List, [], ◌∷◌, length, Some}
use mathlib.Core.List.{IsPrefix}
use Rattle.atomic_table.specs.Seated.{TableId}
use Rattle.pure_text.specs.Lists.{IsIn, Each, AnyOf}
use Rattle.pure_machine.specs.Policy.{Opening}
use Rattle.pure_machine.specs.State.{State, Event}
use Rattle.pure_board_lock.specs.View.{View}
use Rattle.pure_core_runs.specs.Seats.{own, state_of, IsNumberedRun}
use Rattle.pure_board.specs.Sight.{Plan, Sight}

-- The seat is one of this board, which was opened so, and has neither seen nor entered anything.
pub record IsFresh {W G C O : Type 0} (board : Plan W) (o : Opening) (v : Sight W G C O) : Type 0 where
  pub plan : v.plan ≡ board
  pub opening : v.opening ≡ o
  pub seen : v.seen ≡ []
  pub own : v.own ≡ []

-- The seats are all of a board for so many workers: each number below theirs is that of a seat.
abbrev pub AreAll : {W G C O : Type 0} → (workers : ℕ) → List (Sight W G C O) → Type 0
AreAll workers seats = (n : ℕ) → n < workers → AnyOf (λ s. s.number ≡ n) seats

-- The seats of a board that was just opened: as many as workers, all fresh.
pub record AreOpened {W G C O : Type 0} (board : Plan W) (o : Opening) (seats : List (Sight W G C O)) : Type 0 where
  pub as_many : length seats ≡ o.workers
  pub fresh : Each (IsFresh board o) seats
  pub all : AreAll o.workers seats

-- The seats are fresh, of a board of this name and session, and have the numbers from this one on, in order.
abbrev pub IsNumberedFresh : {W G C O : Type 0} → TableId → W → Opening → (number : ℕ) → List (Sight W G C O) → Type 0
IsNumberedFresh name k o n [] = Unit {0}
IsNumberedFresh name k o n (v ∷ vs) = (v ≡ record { plan = record { name = name; session = k }; opening = o; number = n; seen = []; own = [] }) × IsNumberedFresh name k o (n + 1) vs

-- what a board was that was closed: its session, how its core was opened, its whole history, and its core
pub record Ending (W G C O : Type 0) : Type 0 where
  pub session : W
  pub opening : Opening
  pub history : List (ℕ × Event G C O)
  pub core : State G C O

-- The closed board's history is a numbered legal run of its session, opened as it was, and its core is in the state of that history.
pub record IsEnded {W G C O : Type 0} (shape : W → List (List ℕ)) (forks : W → ℕ → ℕ → ℕ → G → Type 0) (closes : W → ℕ → ℕ → C → Type 0) (may : W → G → O → Type 0) (is_fault : W → O → Bool) (end : Ending W G C O) : Type 0 where
  pub shaped : end.opening.shape ≡ shape end.session
  pub run : IsNumberedRun (forks end.session) (closes end.session) (may end.session) (is_fault end.session) end.opening end.history
  pub state : end.core ≡ state_of end.opening end.history

-- The board of these seats was closed so: it is of their opening, its history begins with what each of them had seen, in which stood all that it entered, has of each of them what it entered, by its number, and has no other entries.
pub record IsOfSeats {W G C O : Type 0} (seats : List (Sight W G C O)) (end : Ending W G C O) : Type 0 where
  pub openings : Each (λ s. s.opening ≡ end.opening) seats
  pub begins : Each (λ s. IsPrefix s.seen end.history) seats
  pub knew : Each (λ s. s.own ≡ own s.number s.seen) seats
  pub entries : Each (λ s. own s.number end.history ≡ s.own) seats
  pub no_others : Each (λ a. AnyOf (λ s. s.number ≡ a.0) seats) end.history

-- The token has this seat's entries, which stand in what the seat saw, and has seen that: they are its own, or it has taken them in.
pub record HasOne {W G C O : Type 0} (v : View W Opening (Event G C O)) (s : Sight W G C O) : Type 0 where
  pub opening : v.opening ≡ Some s.opening
  pub entries : ((s.number ≡ v.number) × (s.own ≡ v.own)) ⊎ IsIn (s.number, s.own) v.joined
  pub knew : s.own ≡ own s.number s.seen
  pub saw : (s.seen ≡ v.seen) ⊎ IsIn s.seen v.earlier
  pub counts : s.number ≡ 0 → v.counts ≡ true

-- The token lives, doesn't hold the core, is of this session, has these seats, and counts as many as there are workers, if it counts.
pub record HasTaken {W G C O : Type 0} (session : W) (opening : Opening) (v : View W Opening (Event G C O)) (seats : List (Sight W G C O)) : Type 0 where
  pub session_is : v.session ≡ Some session
  pub opening_is : v.opening ≡ Some opening
  pub lives : v.lives ≡ true
  pub is_free : v.holds ≡ false
  pub counted : v.counts ≡ true → v.made ≡ opening.workers
  pub has : Each (HasOne v) seats
