-- The tokens at a board's desk, which its seats are.
use Rattle.std.specs.Prelude.{◌≡◌, ◌<◌, ℕ, Bool, true, false, List, [], Option, Some, None, is_some, T}
use mathlib.Core.Path.{sym, subst}
use Rattle.atomic_table.specs.Seated.{TableId}
use Rattle.atomic_table.specs.Table.{Me}
use Rattle.pure_machine.specs.Policy.{Opening}
use Rattle.pure_machine.specs.State.{Event, State}
use Rattle.pure_board_lock.specs.View.{View, first_seat, opened_seat}
use Rattle.pure_core_runs.specs.Seats.{own, IsNumberedRun}
use Rattle.pure_board.specs.Sight.{Sight}

-- what is there
abbrev pub value_there : {A : Type 0} → (o : Option A) → is_some o ≡ true → A
value_there (Some x) is = x
value_there None is = absurd (subst T (sym is) tt)

-- what a token at a desk of this name knows, of a session that was opened so
abbrev pub sight : {W G C O : Type 0} → TableId → W → Opening → View W Opening (Event G C O) → Sight W G C O
sight name session opening v = record { plan = record { name = name; session = session }; opening = opening; number = v.number; seen = v.seen; own = v.own }

-- the first token, once it has made so many seats, itself among them
abbrev pub counting : {W G C O : Type 0} → W → Opening → (made : ℕ) → View W Opening (Event G C O)
counting k o made = record (opened_seat (first_seat k) o) { made = made }

-- The token lives, doesn't hold the core, and has taken in no other; it saw a numbered legal run of the session, in which its own entries are these; and the first one counts the seats, as many as there are workers.
pub record IsSeated {W G C O : Type 0} (shape : W → List (List ℕ)) (forks : W → ℕ → ℕ → ℕ → G → Type 0) (closes : W → ℕ → ℕ → C → Type 0) (may : W → G → O → Type 0) (is_fault : W → O → Bool) (v : View W Opening (Event G C O)) : Type 0 where
  pub session : W
  pub opening : Opening
  pub session_is : v.session ≡ Some session
  pub opening_is : v.opening ≡ Some opening
  pub lives : v.lives ≡ true
  pub is_free : v.holds ≡ false
  pub alone : v.joined ≡ []
  pub counts : v.number ≡ 0 → v.counts ≡ true
  pub counted : v.counts ≡ true → v.made ≡ opening.workers
  pub shaped : opening.shape ≡ shape session
  pub few : v.number < opening.workers
  pub lawful : IsNumberedRun (forks session) (closes session) (may session) (is_fault session) opening v.seen
  pub entries : v.own ≡ own v.number v.seen

-- What the call tells, however the session is named that the token is of, and its opening.
abbrev pub Tells : {W G C O : Type 0} → (Sight W G C O → Sight W G C O → Type 0) → (old new : View W Opening (Event G C O)) → Type 0
Tells {W} P old new = (name : TableId) (session : W) (opening : Opening) → old.session ≡ Some session → old.opening ≡ Some opening → P (sight name session opening old) (sight name session opening new)

-- The call is done: the token has no place and is as good as before, of the same session, opened in the same way, and the call tells this.
pub record IsDone {W G C O : Type 0} (shape : W → List (List ℕ)) (forks : W → ℕ → ℕ → ℕ → G → Type 0) (closes : W → ℕ → ℕ → C → Type 0) (may : W → G → O → Type 0) (is_fault : W → O → Bool) (P : Sight W G C O → Sight W G C O → Type 0) (old : View W Opening (Event G C O)) (new : Me (Option (State G C O)) (View W Opening (Event G C O))) : Type 0 where
  pub place : new.1 ≡ []
  pub seated : IsSeated shape forks closes may is_fault new.0
  pub session_same : new.0.session ≡ old.session
  pub opening_same : new.0.opening ≡ old.opening
  pub told : Tells P old new.0
