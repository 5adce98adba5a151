-- What the seats at a desk have seen while it is open. A table's rule holds between any two steps on it, so what follows from it holds of every state in which the desk is found.
use Rattle.std.specs.Prelude.{◌≡◌, ◌≢◌, ◌⊎◌, ℕ, List, true, Option, Some, None}
use mathlib.Core.Option.{some}
use mathlib.Core.List.{IsPrefix}
use lib.ListN.{get_elem?}
use Rattle.atomic_table.specs.Table.{State}
use Rattle.pure_board_lock.specs.History.{entered_by}
use Rattle.pure_board_lock.specs.View.{View}
use Rattle.pure_board_lock.specs.Rule.{IsKept}

-- The seat at this place lives, and knows this.
pub record IsSeatAt {C K O E : Type 0} (s : State (Option C) (View K O E)) (place : ℕ) (v : View K O E) : Type 0 where
  pub there : get_elem? s.views place ≡ some v
  pub lives : v.lives ≡ true

-- What the seats of this desk know is of one history, which is lawful: the object was opened as each of them says, what each has seen is a front of the history, and the entries by its number are those that it made.
pub record HaveOneHistory {C K O E : Type 0} (legal : K → O → List (ℕ × E) → Type 0) (session : K) (s : State (Option C) (View K O E)) : Type 0 where
  pub opening : O
  pub log : List (ℕ × E)
  pub lawful : legal session opening log
  pub openings : (place : ℕ) (v : View K O E) → IsSeatAt s place v → v.opening ≡ Some opening
  pub fronts : (place : ℕ) (v : View K O E) → IsSeatAt s place v → IsPrefix v.seen log
  pub entries : (place : ℕ) (v : View K O E) → IsSeatAt s place v → entered_by v.number log ≡ v.own

-- The desk is as its rule keeps it, and some seat knows how the object was opened, as each does once the object lies there.
pub record IsOpen {C K O E : Type 0} (after : O → List (ℕ × E) → C) (legal : K → O → List (ℕ × E) → Type 0) (session : K) (s : State (Option C) (View K O E)) : Type 0 where
  pub kept : IsKept after legal session s
  pub place : ℕ
  pub seat : View K O E
  pub there : get_elem? s.views place ≡ some seat
  pub opened : seat.opening ≢ None

-- In every state of an open desk its seats have one history.
abbrev pub OpenSeatsHaveOneHistory : {C K O E : Type 0} → (after : O → List (ℕ × E) → C) → (legal : K → O → List (ℕ × E) → Type 0) → (session : K) → Type 0
OpenSeatsHaveOneHistory {C} {K} {O} {E} after legal session = (s : State (Option C) (View K O E)) → IsOpen after legal session s → HaveOneHistory legal session s

-- In every state of an open desk, of any two seats what one has seen is a front of what the other has seen.
abbrev pub OfTwoSeatsOneIsBehind : {C K O E : Type 0} → (after : O → List (ℕ × E) → C) → (legal : K → O → List (ℕ × E) → Type 0) → (session : K) → Type 0
OfTwoSeatsOneIsBehind {C} {K} {O} {E} after legal session = (s : State (Option C) (View K O E)) → IsOpen after legal session s
    → (m n : ℕ) (v w : View K O E) → IsSeatAt s m v → IsSeatAt s n w → IsPrefix v.seen w.seen ⊎ IsPrefix w.seen v.seen
