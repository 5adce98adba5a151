-- What holds of a desk between any two steps: the object on it has one history, of which each seat has seen a beginning, and what a seat entered stands there by its number.
use Rattle.std.specs.Prelude.{◌≡◌, ◌≢◌, ◌⊎◌, ℕ, ◌%◌, ◌^◌, ◌<◌, ◌≤◌, List, [], ◌∷◌, length, Bool, true, false, Option, Some, None}
use mathlib.Core.Option.{some, none}
use mathlib.Core.List.{IsPrefix}
use lib.ListN.{get_elem?}
use Rattle.atomic_table.specs.Table.{State}
use Rattle.pure_text.specs.Lists.{Each}
use Rattle.pure_board_lock.specs.History.{entered_by}
use Rattle.pure_board_lock.specs.View.{View, first_seat, holding}

-- The seat of this number was made and belongs to that place, its entries in the history are these, and all of them stand in what was seen.
pub record IsEntrant {E : Type 0} (log seen : List (ℕ × E)) (owner : ℕ → ℕ) (made place : ℕ) (entrant : ℕ × List E) : Type 0 where
  pub is_made : entrant.0 < made
  pub belongs : owner entrant.0 ≡ place
  pub entries : entered_by entrant.0 log ≡ entrant.1
  pub were_seen : entered_by entrant.0 seen ≡ entrant.1

-- The seat lives and holds the object.
pub record IsHolder {K O E : Type 0} (v : View K O E) : Type 0 where
  pub lives : v.lives ≡ true
  pub holds : v.holds ≡ true

module _ {K O E : Type 0} where
  -- What the seat at this place knows is so: the session, how the object was opened, a beginning of the history that was seen, all entries of the numbers that it has; if it counts the seats, their number; and if it holds the object, that the turn is its own, and the history.
  pub record Fits (k : K) (o : O) (log : List (ℕ × E)) (made : ℕ) (owner : ℕ → ℕ) (turn holder place : ℕ) (v : View K O E) : Type 0 where
    pub session_is : v.session ≡ Some k
    pub opening_is : v.opening ≡ Some o
    pub saw : IsPrefix v.seen log
    pub itself : IsEntrant log v.seen owner made place (v.number, v.own)
    pub others : Each (IsEntrant log v.seen owner made place) v.joined
    pub saw_earlier : Each (λ seen. IsPrefix seen log) v.earlier
    pub counted : v.counts ≡ true → (v.made ≡ made) × (owner 0 ≡ place)
    pub has_turn : v.holds ≡ true → (turn ≡ 1) × (holder ≡ place) × (v.kept ≡ log)

  module _ {C : Type 0} (after : O → List (ℕ × E) → C) (legal : K → O → List (ℕ × E) → Type 0) (k : K) where
    -- There is one legal history, and word 0 counts its events in 64 bits. Where the turn, word 1, is nobody's, the object lies there that the history leads to, and else some seat holds it. What each seat knows that lives is so, and numbers that weren't made have no entry.
    pub record IsSettled (s : State (Option C) (View K O E)) : Type 0 where
      pub opening : O
      pub log : List (ℕ × E)
      pub made : ℕ
      pub owner : ℕ → ℕ
      pub turn : ℕ
      pub holder : ℕ
      pub words_are : s.words ≡ (length log % 2 ^ 64) ∷ turn ∷ []
      pub lawful : legal k opening log
      pub home : turn ≡ 0 → s.homes ≡ some (Some (after opening log)) ∷ []
      pub held : turn ≢ 0 → (v : View K O E) × (get_elem? s.views holder ≡ some v) × IsHolder v
      pub unmade : (number : ℕ) → made ≤ number → entered_by number log ≡ []
      pub fits : (place : ℕ) (v : View K O E) → get_elem? s.views place ≡ some v → v.lives ≡ true → Fits k opening log made owner turn holder place v

    -- the desk on which no object lies yet, before and after its first seat took the empty place
    abbrev pub unset : Bool → State (Option C) (View K O E)
    unset false = record { words = 0 ∷ 1 ∷ []; homes = some None ∷ []; views = first_seat k ∷ [] }
    unset true = record { words = 0 ∷ 1 ∷ []; homes = none ∷ []; views = holding (first_seat k) [] ∷ [] }

    -- No object lies on the desk yet, or it is settled.
    abbrev pub IsKept : State (Option C) (View K O E) → Type 0
    IsKept s = ((took : Bool) × (s ≡ unset took)) ⊎ IsSettled s
