-- Seats of a desk, as its calls speak of them.
use Rattle.std.specs.Prelude.{◌≡◌, ◌≢◌, ◌⊎◌, ℕ, ◌<◌, List, [], ◌∷◌, ◌++◌, true, false, Option, Some, None}
use mathlib.Core.List.{IsPrefix}
use Rattle.atomic_table.specs.declared.shared.Seat.{Seat}
use Rattle.pure_text.specs.Lists.{Each, AnyOf}
use Rattle.pure_board_lock.specs.History.{entered_by, events}
use Rattle.pure_board_lock.specs.View.{View}

-- what a seat knows
abbrev pub view_of : {C K O E : Type 0} → Seat (Option C) (View K O E) → View K O E
view_of s = s.me.0

-- The seat lives at a desk on which an object lies, and doesn't hold it.
pub record IsFree {C K O E : Type 0} (s : Seat (Option C) (View K O E)) : Type 0 where
  pub has_none : s.me.1 ≡ []
  pub lives : (view_of s).lives ≡ true
  pub is_opened : (view_of s).opening ≢ None
  pub is_free : (view_of s).holds ≡ false

-- The seat lives and holds the object.
pub record HasTurn {C K O E : Type 0} (s : Seat (Option C) (View K O E)) : Type 0 where
  pub has_place : s.me.1 ≡ (0, None) ∷ []
  pub lives : (view_of s).lives ≡ true
  pub is_opened : (view_of s).opening ≢ None
  pub has_turn : (view_of s).holds ≡ true

-- The seat counts the seats, and each that was made is this one or was taken in by it.
pub record HasAll {K O E : Type 0} (v : View K O E) : Type 0 where
  pub counts : v.counts ≡ true
  pub has : (number : ℕ) → number < v.made → (number ≡ v.number) ⊎ AnyOf (λ other. other.0 ≡ number) v.joined

module _ {C K O E : Type 0} where
  -- The object is what the history that the seat keeps leads to.
  pub record IsAsKept (after : O → List (ℕ × E) → C) (v : View K O E) (c : C) : Type 0 where
    pub opening : O
    pub opening_is : v.opening ≡ Some opening
    pub object_is : c ≡ after opening v.kept

  -- The object has the event more than the history that the seat keeps, and leads to it by a legal history in which the event stands by the seat's number.
  pub record IsNext (history : C → List E) (after : O → List (ℕ × E) → C) (legal : K → O → List (ℕ × E) → Type 0) (v : View K O E) (c : C) (e : E) : Type 0 where
    pub session : K
    pub opening : O
    pub session_is : v.session ≡ Some session
    pub opening_is : v.opening ≡ Some opening
    pub lawful : legal session opening (v.kept ++ (v.number, e) ∷ [])
    pub object_is : c ≡ after opening (v.kept ++ (v.number, e) ∷ [])
    pub event_is : history c ≡ events v.kept ++ e ∷ []

  -- What the last seat saw is the legal history that led to the object. It begins with what each seat had seen, and its entries are those of the seats, each by the seat's number, and no others.
  pub record IsWhole (after : O → List (ℕ × E) → C) (legal : K → O → List (ℕ × E) → Type 0) (v : View K O E) (c : C) : Type 0 where
    pub session : K
    pub opening : O
    pub session_is : v.session ≡ Some session
    pub opening_is : v.opening ≡ Some opening
    pub lawful : legal session opening v.seen
    pub object_is : c ≡ after opening v.seen
    pub saw_earlier : Each (λ seen. IsPrefix seen v.seen) v.earlier
    pub own_entries : entered_by v.number v.seen ≡ v.own
    pub entries : Each (λ other. entered_by other.0 v.seen ≡ other.1) v.joined
    pub no_others : Each (λ e. e.0 < v.made) v.seen
