-- What each step on a desk tells the seat that takes it.
use Rattle.std.specs.Prelude.{◌≡◌, ◌≢◌, ℕ, List, [], ◌∷◌, ◌++◌, Option, Some, None}
use mathlib.Core.List.{IsPrefix}
use Rattle.atomic_table.specs.Table.{Me, Step}
use Rattle.pure_board_lock.specs.History.{entered_by, events}
use Rattle.pure_board_lock.specs.View.{View, opened_seat, holding, looking, entering, releasing}

module _ {C K O E : Type 0} where
  -- The empty place was taken.
  abbrev pub takes_place : Step (Option C) → Me (Option C) (View K O E) → ℕ → Me (Option C) (View K O E) → Type 0
  takes_place st m n w = w ≡ (holding m.0 [], (0, None) ∷ [])

  -- The object that the seat had was laid there.
  abbrev pub lays : (C → O) → Step (Option C) → Me (Option C) (View K O E) → ℕ → Me (Option C) (View K O E) → Type 0
  lays opened st m n w = (c : C) → m.1 ≡ (0, Some c) ∷ [] → w ≡ (opened_seat m.0 (opened c), [])

  -- The seat took the object, which a legal history led to. It begins with what the seat had seen, and has the seat's own entries and no others by its number.
  pub record IsHeld (after : O → List (ℕ × E) → C) (legal : K → O → List (ℕ × E) → Type 0) (old new : View K O E) (object : C) : Type 0 where
    pub log : List (ℕ × E)
    pub session : K
    pub opening : O
    pub session_is : old.session ≡ Some session
    pub opening_is : old.opening ≡ Some opening
    pub lawful : legal session opening log
    pub begins : IsPrefix old.seen log
    pub entries : entered_by old.number log ≡ old.own
    pub view_is : new ≡ holding old log
    pub object_is : object ≡ after opening log

  -- The seat took the object where nobody had the turn, and else nothing changed.
  abbrev pub tries : (O → List (ℕ × E) → C) → (K → O → List (ℕ × E) → Type 0) → Step (Option C) → Me (Option C) (View K O E) → ℕ → Me (Option C) (View K O E) → Type 0
  tries after legal st m n w = (n ≡ 0 → (c : C) × (w.1 ≡ (0, Some c) ∷ []) × IsHeld after legal m.0 w.0 c) × (n ≢ 0 → w ≡ m)

  -- The holder has seen the whole history.
  abbrev pub looks : Step (Option C) → Me (Option C) (View K O E) → ℕ → Me (Option C) (View K O E) → Type 0
  looks st m n w = w ≡ (looking m.0, m.1)

  -- The event that the object's history has more than the one that is kept was entered.
  abbrev pub ticks : (C → List E) → Step (Option C) → Me (Option C) (View K O E) → ℕ → Me (Option C) (View K O E) → Type 0
  ticks history st m n w = (c : C) (e : E) → m.1 ≡ (0, Some c) ∷ [] → history c ≡ events m.0.kept ++ e ∷ [] → w ≡ (entering m.0 e, m.1)

  -- The object went home.
  abbrev pub gives_back : Step (Option C) → Me (Option C) (View K O E) → ℕ → Me (Option C) (View K O E) → Type 0
  gives_back st m n w = w ≡ (releasing m.0, [])
